-- Compact queries: COMPACT changes no answer, so they are judged by the query without the word.
use Rattle.std.specs.Prelude.{false, ◌≢◌, ◌↔◌, ◌⊎◌, All, IsFalse}
use Rattle.std.specs.declared.option.Option.{Option}
use Rattle.std.specs.declared.option.Option.TheVariants.{None}
use Rattle.sem_query.specs.Query.{QueryValue, IsWithinLimits, is_soft}
use Rattle.sem_query.specs.Violation.{Failure, IsViolation}
use Rattle.sem_lower_bounds.specs.States.{NeedsStates}
use Rattle.sem_lower_bounds.specs.Within.{written, NeedsStatesWithin}

-- the query without COMPACT
abbrev pub plainly : QueryValue → QueryValue
plainly q = record q { compact = false }

-- A query needs many states exactly where the one without COMPACT does, on all rows and on those within its domains. So where no comparison is
-- soft or there is no DISTINCT, it needs them on rows within its domains exactly where the one without COMPACT, with its domains written, violates
-- a condition.
pub record CompactIsJudgedPlainly : Type 0 where
  pub same : (q : QueryValue) → NeedsStates q ↔ NeedsStates (plainly q)
  pub within : (q : QueryValue) → NeedsStatesWithin q ↔ NeedsStatesWithin (plainly q)
  pub exact : (q : QueryValue) → IsWithinLimits (written (plainly q)) → All (λ t. IsFalse (is_soft t.op)) q.atoms ⊎ IsFalse q.distinct
      → (violation : Option Failure) → IsViolation (written (plainly q)) violation
      → NeedsStatesWithin q ↔ (violation ≢ None)
