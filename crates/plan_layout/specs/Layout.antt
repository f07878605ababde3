-- What a layout answers.
use Rattle.std.specs.Prelude.{◌≡◌, ℕ, Bool, IsFalse, List, length, Result, Ok, Err}
use Rattle.std.specs.declared.option.Option.TheVariants.{None, Some}
use Rattle.sem_query.specs.declared.decision.Which.{Which}
use Rattle.sem_query.specs.declared.plan.Numbers.{Numbers}
use Rattle.sem_query.specs.declared.plan.PartPlan.{PartPlan}
use Rattle.sem_query.specs.declared.plan.Plan.{Plan}
use Rattle.sem_query.specs.declared.plan.Plan.TheVariants as plan
use Rattle.sem_query.specs.Query.{QueryValue, is_filter}
use Rattle.sem_query.specs.Violation.{IsViolation}
use Rattle.sem_query.specs.Sharing.{IsPlanFor, IsPlanOf, numbers_for}
use Rattle.sem_query.specs.Verdict.{number_of, first_above}
use Rattle.plan_layout.specs.declared.error.LayoutError.{LayoutError}
use Rattle.plan_layout.specs.declared.error.LayoutError.TheVariants as why
use Rattle.plan_layout.specs.declared.draft.PlanDraft.{PlanDraft}
use Rattle.plan_layout.specs.Capped.{capped}

-- no number of the plan is above its limit
abbrev pub IsWithin : Plan → Type 0
IsWithin plan.Filter = Unit {0}
IsWithin (plan.Parts parts numbers) = first_above numbers ≡ None

-- the first number of the query's plan, without shared cells or with them, that is above its limit, and that number as 64 bits keep
-- it: a filter has none
pub record IsOver (shared : Bool) (q : QueryValue) (which : Which) (value : ℕ) : Type 0 where
  pub plain : IsFalse (is_filter q)
  pub parts : List PartPlan
  pub plan : IsPlanFor shared q parts
  pub first : first_above (numbers_for shared q parts) ≡ Some which
  pub kept : value ≡ capped (number_of (numbers_for shared q parts) which)

-- the plan of the query, without shared cells or with them, where it meets all conditions and its numbers are within their limits; the
-- first violation, or else the first number that is above its limit; a filter has its plan always
abbrev pub IsLayout : Bool → QueryValue → Result Plan LayoutError → Type 0
IsLayout shared q (Ok plan) = IsPlanOf shared q plan × IsWithin plan × IsViolation q None
IsLayout shared q (Err (why.Violation part condition attr)) = IsFalse (is_filter q) × IsViolation q (Some record { part = part; condition = condition; attr = attr })
IsLayout shared q (Err (why.Limit which value)) = IsOver shared q which value × IsViolation q None
IsLayout shared q (Err why.Memory) = IsFalse (is_filter q)

-- these numbers, where none is above its limit, or the first that is
abbrev pub IsLimited : Numbers → Result Numbers LayoutError → Type 0
IsLimited all (Ok numbers) = (numbers ≡ all) × (first_above all ≡ None)
IsLimited all (Err (why.Limit which value)) = (first_above all ≡ Some which) × (value ≡ number_of all which)
IsLimited all (Err (why.Violation part condition attr)) = ⊥
IsLimited all (Err why.Memory) = ⊥

-- the numbers that drafts come to
abbrev pub numbers_in : PlanDraft → Numbers
numbers_in draft = record { parts = length draft.parts.items; cells = draft.cells; answers = draft.answers; work = draft.work }

-- the plan of the drafts with their numbers, where none is above its limit, or the first that is
abbrev pub IsNumbered : PlanDraft → Result Plan LayoutError → Type 0
IsNumbered draft (Ok plan.Filter) = ⊥
IsNumbered draft (Ok (plan.Parts parts numbers)) = (parts ≡ draft.parts.items) × IsLimited (numbers_in draft) (Ok numbers)
IsNumbered draft (Err why) = IsLimited (numbers_in draft) (Err why)
