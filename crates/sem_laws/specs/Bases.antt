-- What a base and the rows since come to, and that it is what the whole history comes to.
use Rattle.std.specs.Prelude.{◌≡◌, ◌≤◌, ◌^◌, List, [], ◌∷◌, ◌++◌, length, IsTrue, IsFalse}
use Rattle.sem_query.specs.declared.plan.PartPlan.{PartPlan}
use Rattle.sem_query.specs.Query.{QueryValue, IsWithinLimits, is_filter}
use Rattle.sem_query.specs.Meaning.{Arrival, new_answers}
use Rattle.sem_query.specs.Domains.{RowKeeps, RowsKeep}
use Rattle.sem_query.specs.Serving.{IsServing}
use Rattle.sem_query.specs.Sharing.{Box, sizes_in}
use Rattle.sem_query.specs.Bases.{Base, first_base, base_of, answers_from, kept, kept_row}
use Rattle.sem_laws.specs.Sharing.{AreBoxesOf}

-- a base is kept row by row, and a checkpoint in between changes nothing: going on from what was kept is going on
pub record KeepsOn (q : QueryValue) (plan : List PartPlan) (list : List Box) (base : Base) : Type 0 where
  pub none : kept q plan list base [] ≡ base
  pub row : (history : List Arrival) (r : Arrival) → kept q plan list base (history ++ r ∷ []) ≡ kept_row q plan list (kept q plan list base history) r
  pub again : (history later : List Arrival) → kept q plan list (kept q plan list base history) later ≡ kept q plan list base (history ++ later)

abbrev pub BasesKeepOn : Type 0
BasesKeepOn = (q : QueryValue) (plan : List PartPlan) (list : List Box) (base : Base) → length base.cells ≡ sizes_in list → KeepsOn q plan list base

-- the boxes are those of parts that serve the query; a filter has none
pub data IsKept (q : QueryValue) (plan : List PartPlan) (list : List Box) : Type 0 where
  alone : IsTrue (is_filter q) → plan ≡ [] → list ≡ [] → IsKept q plan list
  boxed : IsFalse (is_filter q) → IsServing q plan → AreBoxesOf q plan list → IsKept q plan list

-- where the rows keep to the domains: after creation, what is kept is the base of the history; so from the base of one history on it is
-- that of both; and a base of at most 2^40 rows answers what the whole history answers
pub record StandsForHistories (q : QueryValue) (plan : List PartPlan) (list : List Box) : Type 0 where
  pub created : (history : List Arrival) → RowsKeep q history → kept q plan list (first_base list) history ≡ base_of q list history
  pub resumed : (history later : List Arrival) → RowsKeep q history → RowsKeep q later
      → kept q plan list (base_of q list history) later ≡ base_of q list (history ++ later)
  pub answers : (history : List Arrival) (r : Arrival) → RowsKeep q history → RowKeeps q r → length history ≤ 2 ^ 40
      → answers_from q plan (base_of q list history) r ≡ new_answers q history r

abbrev pub BasesStandForHistories : Type 0
BasesStandForHistories =
    (q : QueryValue) (plan : List PartPlan) (list : List Box) → IsWithinLimits q → IsKept q plan list → StandsForHistories q plan list
