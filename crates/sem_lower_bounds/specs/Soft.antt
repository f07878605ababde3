-- Which refusals of queries with soft comparisons are exact.
use Rattle.std.specs.Prelude.{◌≡◌, ◌≢◌, ◌↔◌, All, IsFalse}
use Rattle.std.specs.declared.option.Option.{Option}
use Rattle.std.specs.declared.option.Option.TheVariants.{None, Some}
use Rattle.sem_query.specs.declared.condition.Condition.TheVariants.{C1}
use Rattle.sem_query.specs.Query.{QueryValue, IsWithinLimits, is_soft}
use Rattle.sem_query.specs.Violation.{Failure, IsViolation}
use Rattle.sem_lower_bounds.specs.Plain.{HasNoDomains}
use Rattle.sem_lower_bounds.specs.States.{NeedsStates}

-- no comparison is soft, or there is no DISTINCT, or the refusal names a selected column
pub data RefusalTells (q : QueryValue) (f : Failure) : Type 0 where
  no_soft : All (λ t. IsFalse (is_soft t.op)) q.atoms → RefusalTells q f
  no_distinct : IsFalse q.distinct → RefusalTells q f
  by_selected : f.condition ≡ C1 → RefusalTells q f

-- then a query without domains that is not compact, and is refused, has no evaluator of few states
abbrev pub TellingNeedsStates : Type 0
TellingNeedsStates =
    (q : QueryValue) → IsWithinLimits q → HasNoDomains q → IsFalse q.compact → (f : Failure) → IsViolation q (Some f) → RefusalTells q f → NeedsStates q

-- without DISTINCT and domains, where the query is not compact, no evaluator that is right has few states, exactly where a condition is violated
abbrev pub CountedConditionsAreExact : Type 0
CountedConditionsAreExact =
    (q : QueryValue) → IsWithinLimits q → HasNoDomains q → IsFalse q.compact → IsFalse q.distinct
    → (violation : Option Failure) → IsViolation q violation
    → NeedsStates q ↔ (violation ≢ None)
