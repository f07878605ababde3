-- The queries that are judged by their form, and which of them have too many parts for a family.
use Rattle.std.specs.Prelude.{ℕ, Bool, not, ◌&&◌, IsTrue, IsFalse, Some}
use Rattle.sem_query.specs.declared.atom.Attr.{Attr}
use Rattle.sem_query.specs.declared.condition.Condition.{Condition}
use Rattle.sem_query.specs.Query.{QueryValue, is_filter}
use Rattle.sem_query.specs.Domains.{RowKeeps}
use Rattle.sem_query.specs.Parts.{HasMoreParts}
use Rattle.sem_query.specs.Violation.{Failure}
use Rattle.sem_forms.specs.Forms.{HasWholeForm}
use Rattle.sem_forms.specs.Parts.{HasTooManyParts, IsFormViolation}
use Rattle.sem_lower_bounds.specs.Served.{HasFewStatesOn}
use Rattle.sem_lower_bounds.specs.States.{Evaluator}
use Rattle.sem_lower_bounds.specs.Within.{IsRightOn}

-- compact and no filter
abbrev pub goes_by_form : QueryValue → Bool
goes_by_form q = q.compact && not (is_filter q)

-- this is the first condition that the query breaks, at some part and column, by the parts by which it is judged
pub record BreaksFirst (q : QueryValue) (condition : Condition) : Type 0 where
  pub part : ℕ
  pub attr : Attr
  pub is : IsFormViolation q (Some record { part = part; condition = condition; attr = attr })

-- the query breaks a condition, by the parts by which it is judged
pub record BreaksOne (q : QueryValue) : Type 0 where
  pub first : Failure
  pub is : IsFormViolation q (Some first)

-- an evaluator that is right on rows within the domains has few states
abbrev pub FewAreEnough : QueryValue → Type 0
FewAreEnough q = (e : Evaluator) × IsRightOn (RowKeeps q) q e × HasFewStatesOn (RowKeeps q) e

-- there are too many parts: plain ones, or of the split form of a compact query whose whole form does not fit
pub data IsTooLarge (q : QueryValue) : Type 0 where
  plain : IsFalse (goes_by_form q) → HasMoreParts q 4096 → IsTooLarge q
  form : IsTrue (goes_by_form q) → ¬ HasWholeForm q → HasTooManyParts q → IsTooLarge q
