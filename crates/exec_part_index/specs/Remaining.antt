-- What the codes of parts do not tell of what they ask.
use Rattle.std.specs.Prelude.{◌≡◌, ℕ, ℤ, Bool, true, List, length, slice_get, slice_index_or, Option, Some, None, All}
use Rattle.sem_query.specs.declared.plan.LocalCondition.{LocalCondition}
use Rattle.sem_query.specs.declared.plan.PartPlan.{PartPlan}
use Rattle.sem_query.specs.Query.{QueryValue}
use Rattle.sem_query.specs.Admission.{alone, meets_local}
use Rattle.exec_part_index.specs.declared.tests.Tested.{Tested}
use Rattle.exec_part_index.specs.declared.remaining.Remaining.{Remaining}
use Rattle.exec_part_index.specs.Span.{no_span, in_span, IsSpan}
use Rattle.exec_part_index.specs.PartIndex.{code_after, AsksOnly}
use Rattle.exec_part_index.specs.Showing.{shown_signs}

-- whether a row meets a condition, where there is one
abbrev pub meets_any : (ℕ → ℤ) → Option LocalCondition → Bool
meets_any v None = true
meets_any v (Some t) = meets_local (alone v) t

-- of a row in the ranges of a part's dims that has the part's code, the part asks the conditions of its span and nothing else
pub record AreRemaining (q : QueryValue) (parts : List PartPlan) (place : ℕ) (t : Tested) (r : Remaining) : Type 0 where
  pub many : length r.spans.items ≡ length parts
  pub within : All (IsSpan (length r.conditions.items)) r.spans.items
  pub asks : (k : ℕ) (part : PartPlan) → slice_get parts k ≡ Some part
      → AsksOnly q part place t.pairs.items (code_after 0 (shown_signs t k)) (in_span r.conditions.items (slice_index_or r.spans.items k no_span))
