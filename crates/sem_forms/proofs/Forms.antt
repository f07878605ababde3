-- The plan of any query tells the answers; it is one, and so is the verdict.
use Rattle.std.proofs.Common.{◌≡◌, ◌∷◌, [], inl, inr, IsTrue, Some, Bool, List, refl, sym, ap, ◌∙◌, subst}
use Rattle.std.specs.Prelude.{IsFalse}
use Rattle.sem_query.specs.declared.plan.Numbers.{Numbers}
use Rattle.sem_query.specs.declared.plan.PartPlan.{PartPlan}
use Rattle.sem_query.specs.declared.plan.Plan.TheVariants as variants
use Rattle.sem_query.specs.Query.{QueryValue, IsWithinLimits, is_filter}
use Rattle.sem_query.specs.Numbers.{numbers_of}
use Rattle.sem_query.specs.Plan.{Follow}
use Rattle.sem_query.specs.Serving.{IsServing, AreBased}
use Rattle.sem_query.specs.Verdict.{first_above, verdict_by}
use Rattle.sem_laws.proofs.Tests.{not_both}
use Rattle.sem_whole.proofs.Formed.{well_formed}
use Rattle.sem_forms.proofs.One.{one_whole_part}
use Rattle.sem_forms.proofs.WholeServes.{whole_parts_serve}
use Rattle.sem_forms.specs.Fitting.{FitsWhole}
use Rattle.sem_forms.specs.Forms.{IsFormPlan, MeetsForm, IsWholeFormOr}
use Rattle.sem_forms.specs.Forms as forms
use Rattle.sem_forms.specs.Laws.{FormPlansServe, HasOneFormPlan, HasOneFormVerdict}
use Rattle.sem_forms.proofs.OnePart.{one_part_numbers, one_part_based}
use Rattle.sem_forms.proofs.PartsVerdicts.{parts_plans_serve, parts_based, one_parts_plan, one_parts_verdict}
pub use Rattle.sem_forms.proofs.PartsVerdicts.{plans_of, parts_are_few}

-- the parts of a query that is no filter serve, and their boxes begin where they should
serve : (shared : Bool) (q : QueryValue) (plan : List PartPlan) → IsWithinLimits q → IsFalse (is_filter q) → MeetsForm q → IsFormPlan shared q plan → IsServing q plan × AreBased shared q plan
serve shared q plan within plain meets (forms.whole c part fits follow e) =
    subst (λ ps. IsServing q ps × AreBased shared q ps) (sym e) (whole_parts_serve q (well_formed q within) part fits.plan, one_part_based shared q part follow)
serve shared q plan within plain meets (forms.parts none is) = (parts_plans_serve shared q plan within plain (meets plain none).1 is, parts_based shared q plan is)

pub form_plans_serve : FormPlansServe
form_plans_serve shared q variants.Filter within meets is = is
form_plans_serve shared q (variants.Parts parts numbers) within meets is =
    let s = serve shared q parts within is.0 meets is.1 in
    (is.0, s.0, s.1, is.2)

pub has_one_form_plan : HasOneFormPlan
has_one_form_plan shared q plan other plain meets (forms.whole c part fits follow e) (forms.whole d one gits gollow f) =
    e ∙ ap (λ (p : PartPlan). p ∷ []) (one_whole_part q part one fits.plan gits.plan follow gollow) ∙ sym f
has_one_form_plan shared q plan other plain meets (forms.whole c part fits follow e) (forms.parts none is) = absurd (none (c, part, fits))
has_one_form_plan shared q plan other plain meets (forms.parts none is) (forms.whole c part fits follow e) = absurd (none (c, part, fits))
has_one_form_plan shared q plan other plain meets (forms.parts none is) (forms.parts gone also) = one_parts_plan shared q plan other plain (meets plain none).1 is also

pub has_one_form_verdict : HasOneFormVerdict
has_one_form_verdict shared q free v w (forms.whole plain c part fits follow e) (forms.whole also d one gits gollow f) =
    e ∙ ap (λ (p : PartPlan). verdict_by (numbers_of q (p ∷ [])) free) (one_whole_part q part one fits.plan gits.plan follow gollow) ∙ sym f
has_one_form_verdict shared q free v w (forms.whole plain c part fits follow e) (forms.parts (inl filter) is) = absurd (not_both (is_filter q) filter plain)
has_one_form_verdict shared q free v w (forms.whole plain c part fits follow e) (forms.parts (inr none) is) = absurd (none (c, part, fits))
has_one_form_verdict shared q free v w (forms.parts (inl filter) is) (forms.whole plain c part fits follow e) = absurd (not_both (is_filter q) filter plain)
has_one_form_verdict shared q free v w (forms.parts (inr none) is) (forms.whole plain c part fits follow e) = absurd (none (c, part, fits))
has_one_form_verdict shared q free v w (forms.parts m is) (forms.parts n also) = one_parts_verdict shared q free v w is also

-- the whole form that fits is the plan of the query, with shared cells and without, and within its limits
pub whole_is : (q : QueryValue) (part : PartPlan) (numbers : Numbers) → IsTrue q.compact → IsFalse (is_filter q) → FitsWhole q part → Follow 0 (part ∷ [])
    → numbers ≡ numbers_of q (part ∷ []) → IsWholeFormOr q (Some (variants.Parts (part ∷ []) numbers))
whole_is q part numbers compact plain fits follow e = (
  (compact, part, fits),
  λ shared. (plain, forms.whole compact part fits follow refl, e ∙ sym (one_part_numbers shared q part)),
  ap first_above e ∙ fits.few,
)
