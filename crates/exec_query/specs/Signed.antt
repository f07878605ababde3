-- The only part of a query, where the ranges of its dims tell all that a row is asked.
use Rattle.std.specs.Prelude.{◌≡◌, ℕ, ℤ, true, List, slice_get, Some}
use Rattle.std.specs.List.{list_all}
use Rattle.sem_query.specs.declared.plan.PartPlan.{PartPlan}
use Rattle.sem_query.specs.Query.{QueryValue}
use Rattle.sem_query.specs.Parts.{pairs}
use Rattle.sem_query.specs.Plan.{dims_at}
use Rattle.sem_query.specs.Admission.{in_range}
use Rattle.exec_synopsis.specs.Keeping.{keeps_part}

-- every row that lies in the ranges of the dims of the first part at a place of FROM keeps all that the part asks
abbrev pub IsSigned : QueryValue → List PartPlan → ℕ → Type 0
IsSigned q plan pos =
    (part : PartPlan) → slice_get plan 0 ≡ Some part → (v : ℕ → ℤ) → list_all (in_range v) (dims_at part pos) ≡ true
    → keeps_part (pairs q) part pos v ≡ true
