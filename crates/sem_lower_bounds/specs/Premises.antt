-- That the premises of the law on refused queries are needed.
use Rattle.std.specs.Prelude.{ℕ}
use Rattle.std.specs.declared.option.Option.TheVariants.{Some}
use Rattle.sem_query.specs.Query.{QueryValue, IsWithinLimits}
use Rattle.sem_query.specs.Violation.{Failure, IsViolation}
use Rattle.sem_lower_bounds.specs.Plain.{IsPlain}
use Rattle.sem_lower_bounds.specs.States.{Evaluator, HasStates, HasFewStates, NeedsStates}

-- not every plain query needs many states, and an evaluator that may be wrong has few; before any row there is one state, so that 2^n states at most would say nothing
pub record PremisesAreNeeded : Type 0 where
  pub violation : ¬ ((q : QueryValue) → IsWithinLimits q → IsPlain q → NeedsStates q)
  pub right : ¬ ((q : QueryValue) → IsWithinLimits q → IsPlain q → (f : Failure) → IsViolation q (Some f) → (e : Evaluator) → ¬ HasFewStates e)
  pub fewer : (e : Evaluator) (bound : ℕ) → HasStates e 0 bound 1
