-- The conditions are exact also of evaluators that see only rows as a catalog has them.
use Rattle.std.specs.Prelude.{◌≢◌, ◌↔◌, ℕ}
use Rattle.std.specs.declared.option.Option.{Option}
use Rattle.std.specs.declared.option.Option.TheVariants.{None}
use Rattle.sem_query.specs.Query.{QueryValue, IsWithinLimits}
use Rattle.sem_query.specs.Violation.{Failure, IsViolation}
use Rattle.sem_lower_bounds.specs.Plain.{IsPlain}
use Rattle.sem_lower_bounds.specs.Catalog.{IsOver, NeedsStatesOver}

-- a plain query needs many states on the rows of the catalog exactly where a condition is violated
abbrev pub CatalogConditionsAreExact : Type 0
CatalogConditionsAreExact =
    (q : QueryValue) → IsWithinLimits q → IsPlain q → (width : ℕ → ℕ) → IsOver width q
    → (violation : Option Failure) → IsViolation q violation
    → NeedsStatesOver width q ↔ (violation ≢ None)
