-- What the announced numbers bound.
use Rattle.std.specs.Prelude.{◌≡◌, ◌==◌, false, ℕ, ◌≤◌, ◌^◌, ℤ, List, length, IsTrue, IsFalse, Contains, All, AllPairs}
use Rattle.std.specs.List.{list_any}
use Rattle.sem_query.specs.declared.plan.PartPlan.{PartPlan}
use Rattle.sem_query.specs.Query.{QueryValue, IsWithinLimits, is_filter}
use Rattle.sem_query.specs.Tuples.{is_before}
use Rattle.sem_query.specs.Meaning.{Arrival, answers, new_answers}
use Rattle.sem_query.specs.Domains.{RowKeeps, RowsKeep}
use Rattle.sem_query.specs.Plan.{stream_at}
use Rattle.sem_query.specs.Serving.{Serves, IsServing}
use Rattle.sem_query.specs.Combinations.{Reading}
use Rattle.sem_query.specs.Ranges.{all_tuples}
use Rattle.sem_query.specs.Numbers.{answer_bound}
use Rattle.sem_query.specs.Future.{waiting}
use Rattle.sem_query.specs.Cells.{cell_of, FitsKind}
use Rattle.sem_laws.specs.Growth.{occurs}
use Rattle.sem_laws.specs.Sufficiency.{IsReadingOf}

-- every answer to rows that keep to the domains lies in the ranges of some part, and an ascending table of such tuples is no longer than the announced answers
abbrev pub TableHasRoom : Type 0
TableHasRoom =
    (q : QueryValue) (plan : List PartPlan) → IsWithinLimits q → IsServing q plan
    → ((history : List Arrival) → RowsKeep q history → (t : List ℤ) → Contains (answers q history) t → Contains (all_tuples q plan) t)
    × ((table : List (List ℤ)) → AllPairs (λ t u. IsTrue (is_before t u)) table → All (Contains (all_tuples q plan)) table
    → length table ≤ answer_bound q plan)

-- whatever the cells hold, what waits lies in the ranges of some part
abbrev pub WaitingFits : Type 0
WaitingFits =
    (q : QueryValue) (plan : List PartPlan) → IsWithinLimits q → All (Serves q) plan
    → (read : Reading) (r : Arrival) (t : List ℤ) → Contains (waiting q plan read r) t → Contains (all_tuples q plan) t

-- after at most 2^40 rows the count of one answer is at most 2^120
abbrev pub CountsFit : Type 0
CountsFit =
    (q : QueryValue) → IsWithinLimits q → (history : List Arrival) (r : Arrival) (t : List ℤ)
    → length history ≤ 2 ^ 40 → occurs t (new_answers q history r) ≤ 2 ^ 120

-- after at most 2^40 rows each cell is of its kind, with a count of at most 2^40
abbrev pub CellsFit : Type 0
CellsFit =
    (q : QueryValue) (part : PartPlan) (history : List Arrival) (place i : ℕ)
    → length history ≤ 2 ^ 40 → FitsKind (stream_at part place).kind (cell_of q history part place i)

-- without DISTINCT the count of what waits for one tuple is at most 2^120, however the cells are laid out
abbrev pub WaitingCountsFit : Type 0
WaitingCountsFit =
    (q : QueryValue) (plan : List PartPlan) → IsWithinLimits q → IsFalse (is_filter q) → IsServing q plan → q.distinct ≡ false
    → (history : List Arrival) (read : Reading) → IsReadingOf q plan history read
    → (r : Arrival) (t : List ℤ) → RowsKeep q history → RowKeeps q r → length history ≤ 2 ^ 40 → IsTrue (list_any (λ stream. r.stream == stream) q.from)
    → occurs t (waiting q plan read r) ≤ 2 ^ 120

-- the announced answers are the number of the tuples that lie in the ranges of the parts, counted part by part
abbrev pub AnswersAreCounted : Type 0
AnswersAreCounted = (q : QueryValue) (plan : List PartPlan) → length (all_tuples q plan) ≡ answer_bound q plan
