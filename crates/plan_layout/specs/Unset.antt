-- The plans of all parts of a query, wherever their boxes begin.
use Rattle.std.specs.Prelude.{List, All}
use Rattle.std.specs.declared.option.Option.TheVariants.{Some}
use Rattle.sem_query.specs.declared.plan.PartPlan.{PartPlan}
use Rattle.sem_query.specs.Query.{QueryValue}
use Rattle.sem_query.specs.Parts.{AreParts}
use Rattle.sem_query.specs.Violation.{IsViolation}
use Rattle.plan_layout.specs.declared.error.LayoutError.{LayoutError}
use Rattle.plan_layout.specs.declared.error.LayoutError.TheVariants as why
use Rattle.plan_layout.specs.Drafts.{IsDraft, signs_of}

-- the plans of all parts, in order, whose boxes are still to be set
pub record AreUnset (q : QueryValue) (plans : List PartPlan) : Type 0 where
  pub parts : AreParts q (signs_of plans)
  pub drafts : All (IsDraft q) plans

-- why there are no plans: the first violation, or want of memory
abbrev pub IsPartFault : QueryValue → LayoutError → Type 0
IsPartFault q (why.Violation part condition attr) = IsViolation q (Some record { part = part; condition = condition; attr = attr })
IsPartFault q (why.Limit which value) = ⊥
IsPartFault q why.Memory = Unit {0}
