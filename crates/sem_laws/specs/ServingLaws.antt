-- What holds of plans whose parts serve.
use Rattle.std.specs.Prelude.{◌≡◌, List, IsFalse}
use Rattle.sem_query.specs.declared.plan.PartPlan.{PartPlan}
use Rattle.sem_query.specs.Query.{QueryValue, IsWithinLimits, is_filter}
use Rattle.sem_query.specs.Meaning.{Arrival, new_answers}
use Rattle.sem_query.specs.Domains.{RowKeeps, RowsKeep}
use Rattle.sem_query.specs.Violation.{IsViolation}
use Rattle.sem_query.specs.Plan.{ArePartPlans}
use Rattle.sem_query.specs.Combinations.{Reading}
use Rattle.sem_query.specs.Cells.{printed}
use Rattle.sem_query.specs.Future.{future}
use Rattle.sem_laws.specs.Sufficiency.{IsReadingOf}
use Rattle.std.specs.declared.option.Option.TheVariants.{None}
use Rattle.sem_query.specs.Serving.{IsServing}

-- where the parts of a plan serve and take each combination once, and the rows keep to the domains, the cells of a history, however they are laid
-- out, and the printed tuples tell the answers to the next row
abbrev pub ServingPlansSuffice : Type 0
ServingPlansSuffice =
    (q : QueryValue) (plan : List PartPlan) → IsWithinLimits q → IsFalse (is_filter q) → IsServing q plan
    → (history : List Arrival) → RowsKeep q history → (read : Reading) → IsReadingOf q plan history read
    → (r : Arrival) → RowKeeps q r → future q plan read (printed q history) r ≡ new_answers q history r

-- the plan of a query that violates no condition is such a plan
abbrev pub PlainPlansServe : Type 0
PlainPlansServe =
    (q : QueryValue) (plan : List PartPlan) → IsWithinLimits q → IsFalse (is_filter q) → ArePartPlans q plan → IsViolation q None → IsServing q plan
