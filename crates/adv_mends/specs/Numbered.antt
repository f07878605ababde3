-- What a query comes to: its numbers, or why it is refused, whatever pages are free.
use Rattle.std.specs.Prelude.{◌≡◌, Bool, true, IsTrue, IsFalse, List}
use Rattle.std.specs.declared.option.Option.{Option}
use Rattle.std.specs.declared.option.Option.TheVariants.{None, Some}
use Rattle.sem_query.specs.declared.plan.PartPlan.{PartPlan}
use Rattle.sem_query.specs.declared.plan.Numbers.{Numbers}
use Rattle.sem_query.specs.Query.{QueryValue, is_filter, IsWithinLimits}
use Rattle.sem_query.specs.Verdict.{first_above}
use Rattle.sem_forms.specs.Forms.{HasWholeForm, MeetsForm, IsFormPlan}
use Rattle.sem_forms.specs.Parts.{HasTooManyParts, IsFormViolation, form_numbers, IsOverLimit}
use Rattle.adv_mends.specs.declared.judging.Judgement.{Judgement}
use Rattle.adv_mends.specs.declared.judging.Judgement.TheVariants as judgement
use Rattle.adv_mends.specs.declared.mend.Mend.{Mend}
use Rattle.adv_mends.specs.declared.mend.Mend.TheVariants.{Distinct, Domains, Bounds, Comparison, Compact, Shared}
use Rattle.adv_mends.specs.Mended.{mended}
use Rattle.adv_mends.specs.Meeting.{Meets}

-- these are the numbers of a plan of the query, and none is above its limit
pub record HasNumbers (shared : Bool) (q : QueryValue) (numbers : Numbers) : Type 0 where
  pub parts : List PartPlan
  pub plan : IsFormPlan shared q parts
  pub are : numbers ≡ form_numbers shared q parts
  pub within : first_above numbers ≡ None

-- a filter; its numbers, where it meets all conditions and none is above its limit; and where its whole form does not fit, the first that is; the first violation; or that there are too
-- many parts
abbrev pub IsJudgement : Bool → QueryValue → Judgement → Type 0
IsJudgement shared q judgement.Filter = IsTrue (is_filter q)
IsJudgement shared q (judgement.Accepted numbers) = IsFalse (is_filter q) × MeetsForm q × HasNumbers shared q numbers
IsJudgement shared q (judgement.Above which value) = (¬ HasWholeForm q) × Meets q × IsOverLimit shared q which value
IsJudgement shared q (judgement.Violation part condition attr) =
    (¬ HasWholeForm q) × IsFalse (is_filter q) × (¬ HasTooManyParts q) × IsFormViolation q (Some record { part = part; condition = condition; attr = attr })
IsJudgement shared q judgement.ManyParts = (¬ HasWholeForm q) × IsFalse (is_filter q) × HasTooManyParts q

-- whether boxes that are the same have their cells once, with a change
abbrev pub shares : Mend → Bool → Bool
shares Distinct shared = shared
shares (Domains columns ends) shared = shared
shares (Bounds columns ends) shared = shared
shares (Comparison t) shared = shared
shares Compact shared = shared
shares Shared shared = true

-- what the query comes to with a change, or that it would pass a limit of a statement
abbrev pub IsJudgementWith : Bool → QueryValue → Mend → Option Judgement → Type 0
IsJudgementWith shared q mend None = ¬ IsWithinLimits (mended mend q)
IsJudgementWith shared q mend (Some judgement) = IsJudgement (shares mend shared) (mended mend q) judgement

-- the numbers of a judgement that accepts
abbrev pub accepted : Option Judgement → Option Numbers
accepted None = None
accepted (Some judgement.Filter) = None
accepted (Some (judgement.Accepted numbers)) = Some numbers
accepted (Some (judgement.Above which value)) = None
accepted (Some (judgement.Violation part condition attr)) = None
accepted (Some judgement.ManyParts) = None

-- the numbers of the query with a change, or that it is not accepted with it
pub record AreNumbersWith (shared : Bool) (q : QueryValue) (mend : Mend) (numbers : Option Numbers) : Type 0 where
  pub judgement : Option Judgement
  pub is : IsJudgementWith shared q mend judgement
  pub are : numbers ≡ accepted judgement
