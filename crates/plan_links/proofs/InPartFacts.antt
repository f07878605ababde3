-- What the bounds of a part answer, in the terms of the part.
use Rattle.std.proofs.Common.{List, length, refl, sym, subst}
use Rattle.sem_query.specs.declared.part.Sign.{Sign}
use Rattle.sem_query.specs.declared.atom.Element.{Element}
use Rattle.sem_query.specs.Query.{QueryValue, attrs_of}
use Rattle.sem_query.specs.Order.{IsElement, IsLess, IsEqual}
use Rattle.plan_constraints.specs.declared.constraint.Constraint.{Constraint}
use Rattle.plan_closure.specs.BoundsValue.{BoundsValue}
use Rattle.plan_constraints.specs.Nodes.{IsAlwaysLess, IsAlwaysEqual, nodes_of}
use Rattle.plan_constraints.specs.Solutions.{IsSatisfiable}
use Rattle.plan_constraints.proofs.InPart.{solves_in_part, less_in_part, less_from_part, equal_in_part, equal_from_part}
use Rattle.plan_constraints.specs.PartConstraints.{of_prefix}
use Rattle.plan_closure.specs.declared.distances.Distances.{Distances}
use Rattle.plan_closure.specs.Shortest.{AreDistancesOf, AreSatisfiable}
use Rattle.plan_links.specs.Known.{IsKnown, AreKnown}

module _ (q : QueryValue) (s : List Sign) (b : BoundsValue) (k : IsKnown q s b) where
  pub satisfiable : IsSatisfiable b.constraints
  satisfiable = subst IsSatisfiable (sym k.constraints) record { at = nodes_of (attrs_of q.atoms) k.part.one; solves = solves_in_part q s k.part.one k.part.inside }

  module _ (x y : Element) (hx : IsElement q x) (hy : IsElement q y) where
    pub less_if : IsAlwaysLess q b.constraints x y → IsLess q s x y
    less_if h = less_in_part q s k.within k.part x y hx hy (subst (λ (cs : List Constraint). IsAlwaysLess q cs x y) k.constraints h)

    pub less_only : IsLess q s x y → IsAlwaysLess q b.constraints x y
    less_only h = subst (λ (cs : List Constraint). IsAlwaysLess q cs x y) (sym k.constraints) (less_from_part q s k.within k.part x y hx hy h)

    pub equal_if : IsAlwaysEqual q b.constraints x y → IsEqual q s x y
    equal_if h = equal_in_part q s k.within k.part x y hx hy (subst (λ (cs : List Constraint). IsAlwaysEqual q cs x y) k.constraints h)

    pub equal_only : IsEqual q s x y → IsAlwaysEqual q b.constraints x y
    equal_only h = subst (λ (cs : List Constraint). IsAlwaysEqual q cs x y) (sym k.constraints) (equal_from_part q s k.within k.part x y hx hy h)

-- ---- the same of distances

-- the bounds of a part, as contracts see them
abbrev pub bounds_in : QueryValue → List Sign → BoundsValue
bounds_in q s = record { attrs = length (attrs_of q.atoms); constraints = of_prefix q s }

module _ (q : QueryValue) (s : List Sign) (d : Distances) (k : AreKnown q s d) where
  pub as_known : IsKnown q s (bounds_in q s)
  as_known = record { part = k.part; within = k.within; few = k.few; attrs = refl; constraints = refl }

  pub solvable : AreSatisfiable d
  solvable = record {
    constraints = of_prefix q s;
    distances = subst (λ m. AreDistancesOf d m (of_prefix q s)) (sym k.distances.attrs) k.distances;
    satisfiable = satisfiable q s (bounds_in q s) as_known;
  }
