-- Any plan whose parts serve its query, with domains and soft comparisons or without: an evaluator that keeps its cells and the printed tuples has
-- few states, on rows within the domains.
use Rattle.std.specs.Prelude.{ℕ, suc, ◌<◌, ◌*◌, ◌^◌, List}
use Rattle.sem_query.specs.declared.plan.PartPlan.{PartPlan}
use Rattle.sem_query.specs.Query.{QueryValue, IsWithinLimits}
use Rattle.sem_query.specs.Domains.{RowKeeps}
use Rattle.sem_query.specs.Meaning.{Arrival}
use Rattle.sem_query.specs.Plan.{Follow}
use Rattle.sem_laws.specs.Sufficiency.{IsPlannedAnywhere}
use Rattle.sem_lower_bounds.specs.Accepted.{states_of}
use Rattle.sem_lower_bounds.specs.States.{Evaluator}
use Rattle.sem_lower_bounds.specs.Within.{IsRightOn, HasStatesOn}

-- for some n it has fewer than 2^n states after at most n rows of a kind with values within b * (n + 1)
pub record HasFewForOn (kind : Arrival → Type 0) (e : Evaluator) (b : ℕ) : Type 0 where
  pub n : ℕ
  pub most : ℕ
  pub states : HasStatesOn kind e n (b * suc n) most
  pub few : most < 2 ^ n

-- whatever the factor b
abbrev pub HasFewStatesOn : (Arrival → Type 0) → Evaluator → Type 0
HasFewStatesOn kind e = (b : ℕ) → HasFewForOn kind e b

-- where the parts of a plan serve, or the query is a filter, some evaluator is right on rows within the domains, and has no more states than the
-- cells and the answers of the plan tell
abbrev pub ServingHasStates : Type 0
ServingHasStates =
    (q : QueryValue) (plan : List PartPlan) → IsWithinLimits q → IsPlannedAnywhere q plan → Follow 0 plan
    → (e : Evaluator) × IsRightOn (RowKeeps q) q e × ((n bound : ℕ) → HasStatesOn (RowKeeps q) e n bound (states_of q plan n bound))

-- and these are few
abbrev pub ServingHasFewStates : Type 0
ServingHasFewStates =
    (q : QueryValue) (plan : List PartPlan) → IsWithinLimits q → IsPlannedAnywhere q plan → Follow 0 plan
    → (e : Evaluator) × IsRightOn (RowKeeps q) q e × HasFewStatesOn (RowKeeps q) e
