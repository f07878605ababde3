-- Accepted means few states, whichever form a query has: plain, or compact as a whole or by parts, with domains and soft comparisons or without.
use Rattle.std.specs.Prelude.{false}
use Rattle.sem_query.specs.declared.plan.Plan.{Plan}
use Rattle.sem_query.specs.Query.{QueryValue, IsWithinLimits}
use Rattle.sem_query.specs.Domains.{RowKeeps}
use Rattle.sem_forms.specs.Forms.{MeetsForm, IsFormPlanOf}
use Rattle.sem_lower_bounds.specs.Served.{HasFewStatesOn}
use Rattle.sem_lower_bounds.specs.States.{Evaluator}
use Rattle.sem_lower_bounds.specs.Within.{IsRightOn, NeedsStatesWithin}

-- a query that breaks no condition of its form and has a plan has an evaluator that is right on rows within the domains and has few states
abbrev pub FormsHaveFewStates : Type 0
FormsHaveFewStates =
    (q : QueryValue) (plan : Plan) → IsWithinLimits q → MeetsForm q → IsFormPlanOf false q plan
    → (e : Evaluator) × IsRightOn (RowKeeps q) q e × HasFewStatesOn (RowKeeps q) e

-- so it does not need many
abbrev pub FormsNeedFewStates : Type 0
FormsNeedFewStates = (q : QueryValue) (plan : Plan) → IsWithinLimits q → MeetsForm q → IsFormPlanOf false q plan → ¬ NeedsStatesWithin q
