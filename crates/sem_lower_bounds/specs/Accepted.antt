-- The counterpart: a query without domains of which no condition is violated has an evaluator that is right and has few states.
use Rattle.std.specs.Prelude.{◌≡◌, ◌≢◌, ◌↔◌, ℕ, ◌+◌, ◌*◌, ◌^◌, if◌then◌else◌, List}
use Rattle.std.specs.declared.option.Option.{Option}
use Rattle.std.specs.declared.option.Option.TheVariants.{None}
use Rattle.sem_query.specs.declared.plan.PartPlan.{PartPlan}
use Rattle.sem_query.specs.Query.{QueryValue, IsWithinLimits}
use Rattle.sem_query.specs.Violation.{Failure, IsViolation}
use Rattle.sem_query.specs.Plan.{IsPlanned}
use Rattle.sem_query.specs.Numbers.{cell_count, answer_bound}
use Rattle.sem_lower_bounds.specs.Plain.{HasNoDomains, IsPlain}
use Rattle.sem_lower_bounds.specs.States.{Evaluator, IsRight, HasStates, HasFewStates, NeedsStates}

-- so many states for the announced cells and answers, after n rows with values within a bound: without DISTINCT a cell is a count of rows;
-- with DISTINCT a cell has no row, some row or an extreme within the bound, and any of the answers may have been printed
abbrev pub states_of : QueryValue → List PartPlan → ℕ → ℕ → ℕ
states_of q plan n bound = if q.distinct then (2 * bound + 3) ^ cell_count plan * 2 ^ answer_bound q plan else (n + 1) ^ cell_count plan

-- where no column has a domain, no condition is violated and there is a plan, some evaluator is right and has no more states than that
abbrev pub AcceptedHasStates : Type 0
AcceptedHasStates =
    (q : QueryValue) (plan : List PartPlan) → IsWithinLimits q → HasNoDomains q → IsPlanned q plan → IsViolation q None
    → (e : Evaluator) × IsRight q e × ((n bound : ℕ) → HasStates e n bound (states_of q plan n bound))

-- the number of states is at most a power of a multiple of the number of rows and the bound on their values
pub record HasPolynomiallyManyStates (e : Evaluator) : Type 0 where
  pub factor : ℕ
  pub exponent : ℕ
  pub states : (n bound : ℕ) → HasStates e n bound ((factor * (n + bound + 1)) ^ exponent)

-- polynomially many states are few
abbrev pub PolynomiallyManyAreFew : Type 0
PolynomiallyManyAreFew = (e : Evaluator) → HasPolynomiallyManyStates e → HasFewStates e

-- where a plain query has a plan, some evaluator is right and has few states, exactly where no condition is violated
abbrev pub FewStatesDecide : Type 0
FewStatesDecide =
    (q : QueryValue) (plan : List PartPlan) → IsWithinLimits q → IsPlain q → IsPlanned q plan
    → (violation : Option Failure) → IsViolation q violation
    → ((e : Evaluator) × IsRight q e × HasFewStates e) ↔ (violation ≡ None)

-- the same whether or not a plan is known: no evaluator that is right has few states, exactly where a condition is violated
abbrev pub ConditionsAreExact : Type 0
ConditionsAreExact =
    (q : QueryValue) → IsWithinLimits q → IsPlain q
    → (violation : Option Failure) → IsViolation q violation
    → NeedsStates q ↔ (violation ≢ None)

-- no query without domains lacks a plan, whether or not a condition is violated: that none is its plan is absurd
abbrev pub NoneLacksPlan : Type 0
NoneLacksPlan =
    (q : QueryValue) → HasNoDomains q → (violation : Option Failure) → IsViolation q violation
    → ¬ ((plan : List PartPlan) → ¬ IsPlanned q plan)
