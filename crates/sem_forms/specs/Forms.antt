-- The plan and the verdict of any query: of a compact one its whole form where that fits, and else its parts.
use Rattle.std.specs.Prelude.{◌≡◌, ℕ, ◌⊎◌, Bool, IsTrue, IsFalse, Option, None, Some, List, [], ◌∷◌}
use Rattle.sem_query.specs.declared.plan.PartPlan.{PartPlan}
use Rattle.sem_query.specs.declared.plan.Plan.{Plan}
use Rattle.sem_query.specs.declared.plan.Plan.TheVariants as plan
use Rattle.sem_query.specs.Query.{QueryValue, is_filter}
use Rattle.sem_query.specs.Numbers.{numbers_of}
use Rattle.sem_query.specs.Plan.{Follow}
use Rattle.sem_query.specs.Serving.{IsServing, AreBased}
use Rattle.sem_query.specs.Verdict.{Verdict, first_above, verdict_by}
use Rattle.sem_forms.specs.Fitting.{FitsWhole}
use Rattle.sem_forms.specs.Parts.{HasTooManyParts, IsFormViolation, IsPartsFor, form_numbers, IsPartsVerdict}

-- the query is compact, and its whole form fits
abbrev pub HasWholeForm : QueryValue → Type 0
HasWholeForm q = IsTrue q.compact × (part : PartPlan) × FitsWhole q part

-- the plan of a query that is no filter, without shared cells or with them: of a compact one its whole form where that fits, as one part, and
-- else its parts
pub data IsFormPlan (shared : Bool) (q : QueryValue) (plan : List PartPlan) : Type 0 where
  whole : IsTrue q.compact → (part : PartPlan) → FitsWhole q part → Follow 0 (part ∷ []) → plan ≡ part ∷ [] → IsFormPlan shared q plan
  parts : ¬ HasWholeForm q → IsPartsFor shared q plan → IsFormPlan shared q plan

-- the plan of a query with its numbers
abbrev pub IsFormPlanOf : Bool → QueryValue → Plan → Type 0
IsFormPlanOf shared q plan.Filter = IsTrue (is_filter q)
IsFormPlanOf shared q (plan.Parts list numbers) = IsFalse (is_filter q) × IsFormPlan shared q list × (numbers ≡ form_numbers shared q list)

-- a plan with its numbers that serves the query, whichever form it has
abbrev pub IsServingForm : Bool → QueryValue → Plan → Type 0
IsServingForm shared q plan.Filter = IsTrue (is_filter q)
IsServingForm shared q (plan.Parts list numbers) = IsFalse (is_filter q) × IsServing q list × AreBased shared q list × (numbers ≡ form_numbers shared q list)

-- no condition is broken: the query is a filter, or its whole form fits, or there are not too many parts and none breaks one
abbrev pub MeetsForm : QueryValue → Type 0
MeetsForm q = IsFalse (is_filter q) → ¬ HasWholeForm q → (¬ HasTooManyParts q) × IsFormViolation q None

-- the verdict on a query, with so many free pages: by the numbers of the whole form where that fits, and else as the parts have it
pub data IsFormVerdict (shared : Bool) (q : QueryValue) (free : ℕ) (verdict : Verdict) : Type 0 where
  whole : IsFalse (is_filter q) → IsTrue q.compact → (part : PartPlan) → FitsWhole q part → Follow 0 (part ∷ [])
      → verdict ≡ verdict_by (numbers_of q (part ∷ [])) free → IsFormVerdict shared q free verdict
  parts : (IsTrue (is_filter q) ⊎ ¬ HasWholeForm q) → IsPartsVerdict shared q free verdict → IsFormVerdict shared q free verdict

-- no number of the plan is above its limit
abbrev pub IsWithin : Plan → Type 0
IsWithin plan.Filter = Unit {0}
IsWithin (plan.Parts list numbers) = first_above numbers ≡ None

-- what is answered where the whole form is asked for: its plan with its numbers, none above its limit, which is that of the query with shared
-- cells and without; or none, where the query is not compact or its whole form does not fit
abbrev pub IsWholeFormOr : QueryValue → Option Plan → Type 0
IsWholeFormOr q None = ¬ HasWholeForm q
IsWholeFormOr q (Some p) = HasWholeForm q × ((shared : Bool) → IsFormPlanOf shared q p) × IsWithin p
