-- What no split part breaks has few states, whatever its numbers: of any query, with domains and soft comparisons or without, with DISTINCT or without.
use Rattle.std.specs.declared.option.Option.TheVariants.{None}
use Rattle.sem_query.specs.Domains.{RowKeeps}
use Rattle.sem_query.specs.Query.{QueryValue, IsWithinLimits}
use Rattle.sem_forms.specs.SplitBreaks.{IsSplitViolation}
use Rattle.sem_lower_bounds.specs.Served.{HasFewStatesOn}
use Rattle.sem_lower_bounds.specs.States.{Evaluator}
use Rattle.sem_lower_bounds.specs.Within.{IsRightOn, NeedsStatesWithin}

-- a query of which no split part breaks anything has an evaluator that is right on rows within the domains and has few states
abbrev pub UnbrokenPartsHaveFewStates : Type 0
UnbrokenPartsHaveFewStates =
    (q : QueryValue) → IsWithinLimits q → IsSplitViolation q None → (e : Evaluator) × IsRightOn (RowKeeps q) q e × HasFewStatesOn (RowKeeps q) e

-- so it does not need many
abbrev pub UnbrokenPartsNeedFewStates : Type 0
UnbrokenPartsNeedFewStates = (q : QueryValue) → IsWithinLimits q → IsSplitViolation q None → ¬ NeedsStatesWithin q
