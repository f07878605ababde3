-- The parts of a plan, each worked out once, and chained by the signs that lead a row to them.
use Rattle.std.specs.Prelude.{◌≡◌, ℕ, List, [], ◌∷◌, length, slice_get, Some}
use Rattle.sem_query.specs.declared.part.Pair.{Pair}
use Rattle.sem_query.specs.declared.plan.PartPlan.{PartPlan}
use Rattle.sem_query.specs.Query.{QueryValue}
use Rattle.sem_query.specs.Parts.{pairs}
use Rattle.exec_synopsis.specs.declared.prepared.Prepared.{Prepared}
use Rattle.exec_synopsis.specs.Preparing.{IsPrepared}
use Rattle.exec_part_index.specs.declared.part_index.PartIndex.{PartIndex}
use Rattle.exec_part_index.specs.declared.prepared.PreparedPlan.{PreparedPlan}
use Rattle.exec_part_index.specs.PartIndex.{IsPartIndex}

-- what is worked out is that of the parts, in their order
abbrev pub ArePrepared : List Pair → List PartPlan → List Prepared → Type 0
ArePrepared ps [] [] = Unit {0}
ArePrepared ps [] (p ∷ prepared) = ⊥
ArePrepared ps (part ∷ parts) [] = ⊥
ArePrepared ps (part ∷ parts) (p ∷ prepared) = IsPrepared ps part p × ArePrepared ps parts prepared

-- these are the chains of the first places of FROM
abbrev pub ArePartIndexes : QueryValue → List PartPlan → List PartIndex → Type 0
ArePartIndexes q parts all = (place : ℕ) (c : PartIndex) → slice_get all place ≡ Some c → IsPartIndex q parts place c

-- all is that of the parts, with chains for each place of FROM
pub record IsPreparedPlan (q : QueryValue) (parts : List PartPlan) (p : PreparedPlan) : Type 0 where
  pub each : ArePrepared (pairs q) parts p.parts.items
  pub many : length p.part_index.items ≡ length q.from
  pub part_index : ArePartIndexes q parts p.part_index.items
