-- The plan of the whole form with its numbers, and how a compact query is planned.
use Rattle.std.specs.Prelude.{◌≡◌, Option, None, Some, Ok, [], ◌∷◌}
use Rattle.sem_query.specs.declared.plan.Numbers.{Numbers}
use Rattle.sem_query.specs.declared.plan.PartPlan.{PartPlan}
use Rattle.sem_query.specs.declared.plan.Plan.TheVariants as plans
use Rattle.sem_query.specs.Query.{QueryValue}
use Rattle.sem_query.specs.Plan.{Follow}
use Rattle.sem_query.specs.Numbers.{numbers_of}
use Rattle.sem_query.specs.Verdict.{first_above}
use Rattle.plan_layout.specs.declared.draft.PlanDraft.{PlanDraft}
use Rattle.sem_forms.specs.Fitting.{IsWithinAsOne, AreCheaper, HasCheaperParts}
use Rattle.sem_forms.specs.Forms.{HasWholeForm, IsWholeFormOr}
use Rattle.plan_forms.specs.declared.fitting.WholePlan.{WholePlan}
use Rattle.plan_forms.specs.declared.whole.ChosenForm.{ChosenForm}
use Rattle.plan_forms.specs.declared.whole.ChosenForm.TheVariants as chosen
use Rattle.plan_forms.specs.Planned.{IsSplitForm}

-- the plan of the whole form that is within the limits, its boxes one after another from cell 0 on, with its numbers; or none where there is no such
abbrev pub IsFitted : QueryValue → Option WholePlan → Type 0
IsFitted q None = (part : PartPlan) → ¬ IsWithinAsOne q part
IsFitted q (Some p) = IsWithinAsOne q p.part × Follow 0 (p.part ∷ []) × (p.numbers ≡ numbers_of q (p.part ∷ []))

-- no number that parts come to is above its limit, and rows are cheaper by them
abbrev pub AreCheaperWithin : Numbers → Numbers → Type 0
AreCheaperWithin parts whole = (first_above parts ≡ None) × AreCheaper parts whole

-- the plans of the parts where rows are cheaper by them than by this plan of the whole form, or none where they are not
abbrev pub AreCheaperParts : QueryValue → PartPlan → Option PlanDraft → Type 0
AreCheaperParts q part None = ¬ HasCheaperParts q part
AreCheaperParts q part (Some parts) = HasCheaperParts q part × IsSplitForm q (Ok parts)

-- a compact query is planned by its whole form where that fits, and else by its parts, which are known where rows are cheaper by them
abbrev pub IsChosen : QueryValue → ChosenForm → Type 0
IsChosen q (chosen.Whole whole) = IsWholeFormOr q (Some (plans.Parts (whole.part ∷ []) whole.numbers))
IsChosen q (chosen.Cheaper parts) = (¬ HasWholeForm q) × IsSplitForm q (Ok parts)
IsChosen q chosen.Parts = ¬ HasWholeForm q
