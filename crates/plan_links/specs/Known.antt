-- The distances and the difference bounds of a part.
use Rattle.std.specs.Prelude.{◌≡◌, ℕ, ◌+◌, ◌≤◌, List, ◌++◌, length, take, All}
use Rattle.sem_query.specs.declared.part.Sign.{Sign}
use Rattle.sem_query.specs.Query.{QueryValue, attrs_of, IsWithinLimits}
use Rattle.sem_query.specs.Parts.{IsPart}
use Rattle.plan_constraints.specs.declared.constraint.Constraint.{Constraint}
use Rattle.plan_closure.specs.declared.distances.Distances.{Distances}
use Rattle.plan_closure.specs.BoundsValue.{BoundsValue}
use Rattle.plan_closure.specs.Shortest.{AreDistancesOf}
use Rattle.plan_closure.specs.Choices.{AreChoices}
use Rattle.plan_constraints.specs.PartConstraints.{of_base, of_prefix}
use Rattle.plan_constraints.specs.Solutions.{IsWithin}
use Rattle.plan_links.specs.BasisValue.{BasisValue}
use Rattle.plan_links.specs.PartDistancesValue.{PartDistancesValue}
use Rattle.plan_links.specs.Sifting.{AreLinksAcross}

-- the bounds are those of a part of the query
pub record IsKnown (q : QueryValue) (s : List Sign) (b : BoundsValue) : Type 0 where
  pub part : IsPart q s
  pub within : IsWithinLimits q
  pub few : length (attrs_of q.atoms) ≤ 12
  pub attrs : b.attrs ≡ length (attrs_of q.atoms)
  pub constraints : b.constraints ≡ of_prefix q s

-- the distances are those of a part of the query
pub record AreKnown (q : QueryValue) (s : List Sign) (d : Distances) : Type 0 where
  pub part : IsPart q s
  pub within : IsWithinLimits q
  pub few : length (attrs_of q.atoms) ≤ 12
  pub distances : AreDistancesOf d (length (attrs_of q.atoms)) (of_prefix q s)

-- the first distances are those of the first signs of the part that was read last
abbrev pub AreBegun : QueryValue → PartDistancesValue → Type 0
AreBegun q d = AreDistancesOf d.first (length (attrs_of q.atoms)) (of_prefix q (take d.count d.signs))

-- the distances are those of the query's comparisons and domains, there is a choice for each of its pairs, and a link of each attribute with each of another stream
pub record IsBasis (q : QueryValue) (b : BasisValue) : Type 0 where
  pub within : IsWithinLimits q
  pub distances : AreDistancesOf b.distances (length (attrs_of q.atoms)) (of_base q)
  pub choices : AreChoices q b.choices
  pub links : AreLinksAcross q b.links

-- the constraints of one more sign than the first i
pub record AddsSign (q : QueryValue) (s : List Sign) (i : ℕ) (cs : List Constraint) : Type 0 where
  pub more : of_prefix q (take (i + 1) s) ≡ of_prefix q (take i s) ++ cs
  pub within : All (IsWithin (length (attrs_of q.atoms))) cs
  pub few : length cs ≤ 2
