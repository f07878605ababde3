-- Where no near part breaks a condition few states are enough, with DISTINCT; so its near parts decide.
use Rattle.std.specs.Prelude.{◌↔◌, IsTrue}
use Rattle.sem_query.specs.Query.{QueryValue, IsWithinLimits}
use Rattle.sem_query.specs.Domains.{RowKeeps}
use Rattle.sem_lower_bounds.specs.Served.{HasFewStatesOn}
use Rattle.sem_lower_bounds.specs.States.{Evaluator}
use Rattle.sem_lower_bounds.specs.Within.{IsRightOn, NeedsStatesWithin}
use Rattle.sem_split_bounds.specs.Near.{NearBreak}

-- with DISTINCT, a query of which no near part breaks a condition by its orders and equalities has an evaluator that is right on rows within the
-- domains and has few states, whatever stands between its streams
abbrev pub UnbrokenNearPartsHaveFewStates : Type 0
UnbrokenNearPartsHaveFewStates =
    (q : QueryValue) → IsWithinLimits q → IsTrue q.distinct → ¬ NearBreak q → (e : Evaluator) × IsRightOn (RowKeeps q) q e × HasFewStatesOn (RowKeeps q) e

-- so with DISTINCT it needs many states exactly where some near part does: that none does is absurd
abbrev pub NearConditionsAreExact : Type 0
NearConditionsAreExact = (q : QueryValue) → IsWithinLimits q → IsTrue q.distinct → NeedsStatesWithin q ↔ ¬ ¬ NearBreak q
