-- The plan of a query by its parts, of either kind, with its numbers; or why there is none.
use Rattle.std.specs.Prelude.{◌≡◌, ◌≤◌, ◌⊎◌, Bool, IsTrue, IsFalse, List, length, Result, Ok, Err}
use Rattle.std.specs.declared.option.Option.TheVariants.{None, Some}
use Rattle.sem_query.specs.declared.plan.Numbers.{Numbers}
use Rattle.sem_query.specs.declared.plan.PartPlan.{PartPlan}
use Rattle.sem_query.specs.declared.plan.Plan.{Plan}
use Rattle.sem_query.specs.declared.plan.Plan.TheVariants as plan
use Rattle.sem_query.specs.Query.{QueryValue}
use Rattle.sem_query.specs.Verdict.{first_above}
use Rattle.plan_layout.specs.declared.draft.PlanDraft.{PlanDraft}
use Rattle.plan_layout.specs.declared.error.LayoutError.{LayoutError}
use Rattle.plan_layout.specs.declared.error.LayoutError.TheVariants as layout
use Rattle.plan_layout.specs.Layout.{IsLimited, numbers_in}
use Rattle.plan_layout.specs.Unset.{AreUnset}
use Rattle.sem_forms.specs.Forms.{HasWholeForm, IsWholeFormOr}
use Rattle.sem_forms.specs.Parts.{HasTooManyParts, IsFormViolation, IsPartsFor, form_numbers, IsOverLimit}
use Rattle.plan_forms.specs.declared.error.PartsRefusal.{PartsRefusal}
use Rattle.plan_forms.specs.declared.error.PartsRefusal.TheVariants as why
use Rattle.plan_forms.specs.Drafts.{AreSplitDrafts, AreDrafted}

-- there are not too many parts, and none breaks a condition
pub record MeetsByParts (q : QueryValue) : Type 0 where
  pub few : ¬ HasTooManyParts q
  pub none : IsFormViolation q None

-- the plan of the parts with its numbers, none of which is above its limit
pub record IsPlannedByParts (shared : Bool) (q : QueryValue) (list : List PartPlan) (numbers : Numbers) : Type 0 where
  pub plan : IsPartsFor shared q list
  pub are : numbers ≡ form_numbers shared q list
  pub within : first_above numbers ≡ None
  pub count : length list ≤ 4096
  pub meets : MeetsByParts q

-- what stands in the way of a plan by parts, but for its numbers
abbrev pub IsRefusedByParts : QueryValue → PartsRefusal → Type 0
IsRefusedByParts q why.TooManyParts = HasTooManyParts q
IsRefusedByParts q (why.Violation part condition attr) = (¬ HasTooManyParts q) × IsFormViolation q (Some record { part = part; condition = condition; attr = attr })
IsRefusedByParts q (why.Limit which value) = ⊥
IsRefusedByParts q why.Memory = Unit {0}

-- the plan of the parts with its numbers, without shared cells or with them; the first number that is above its limit; or what else stands in the way
abbrev pub IsPartsPlan : Bool → QueryValue → Result Plan PartsRefusal → Type 0
IsPartsPlan shared q (Ok plan.Filter) = ⊥
IsPartsPlan shared q (Ok (plan.Parts list numbers)) = IsPlannedByParts shared q list numbers
IsPartsPlan shared q (Err (why.Limit which value)) = MeetsByParts q × IsOverLimit shared q which value
IsPartsPlan shared q (Err why.TooManyParts) = IsRefusedByParts q why.TooManyParts
IsPartsPlan shared q (Err (why.Violation part condition attr)) = IsRefusedByParts q (why.Violation part condition attr)
IsPartsPlan shared q (Err why.Memory) = Unit {0}

-- the plan of the whole form where that fits, and else what is answered of the parts; for want of memory nothing is told
abbrev pub IsFormAnswer : Bool → QueryValue → Result Plan PartsRefusal → Type 0
IsFormAnswer shared q (Ok p) = IsWholeFormOr q (Some p) ⊎ ((¬ HasWholeForm q) × IsPartsPlan shared q (Ok p))
IsFormAnswer shared q (Err why.TooManyParts) = (¬ HasWholeForm q) × IsPartsPlan shared q (Err why.TooManyParts)
IsFormAnswer shared q (Err (why.Violation part condition attr)) = (¬ HasWholeForm q) × IsPartsPlan shared q (Err (why.Violation part condition attr))
IsFormAnswer shared q (Err (why.Limit which value)) = (¬ HasWholeForm q) × IsPartsPlan shared q (Err (why.Limit which value))
IsFormAnswer shared q (Err why.Memory) = Unit {0}

-- the plans of all parts, of either kind, in order, whose boxes are still to be set
pub data ArePartDrafts (q : QueryValue) (plans : List PartPlan) : Type 0 where
  plain : IsFalse q.compact → AreUnset q plans → ArePartDrafts q plans
  split : IsTrue q.compact → AreSplitDrafts q plans → ArePartDrafts q plans

-- these, at most 4,096, of parts that break no condition
pub record AreDraftedByParts (q : QueryValue) (plans : List PartPlan) : Type 0 where
  pub drafts : ArePartDrafts q plans
  pub count : length plans ≤ 4096
  pub meets : MeetsByParts q

-- ---- on the way

-- why there is no plan, where this is why the parts have none
abbrev pub refusal_of : LayoutError → PartsRefusal
refusal_of (layout.Violation part condition attr) = why.Violation part condition attr
refusal_of (layout.Limit which value) = why.Limit which value
refusal_of layout.Memory = why.Memory

-- the plans of all parts of the split form of a compact query, or what stands in the way
abbrev pub IsSplitForm : QueryValue → Result PlanDraft PartsRefusal → Type 0
IsSplitForm q (Ok draft) = AreDrafted q draft × (¬ HasTooManyParts q)
IsSplitForm q (Err why) = IsRefusedByParts q why

-- the plan of the drafts with their numbers, where none is above its limit, or the first that is
abbrev pub IsNumberedSplit : PlanDraft → Result Plan PartsRefusal → Type 0
IsNumberedSplit draft (Ok plan.Filter) = ⊥
IsNumberedSplit draft (Ok (plan.Parts parts numbers)) = (parts ≡ draft.parts.items) × IsLimited (numbers_in draft) (Ok numbers)
IsNumberedSplit draft (Err (why.Limit which value)) = IsLimited (numbers_in draft) (Err (layout.Limit which value))
IsNumberedSplit draft (Err why.TooManyParts) = ⊥
IsNumberedSplit draft (Err (why.Violation part condition attr)) = ⊥
IsNumberedSplit draft (Err why.Memory) = ⊥
