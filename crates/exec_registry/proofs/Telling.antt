-- What an answer to CREATE QUERY tells is the verdict.
use Rattle.std.proofs.Common.{◌≡◌, ℕ, ◌<◌, ◌≤◌, inl, inr, Bool, true, false, IsFalse, List, [], ◌∷◌, cond, refl, sym, ap, ◌∙◌, arith, None, Ok, Err, nat_lt}
use Rattle.std.proofs.lemmas.Bool.Decides.{nat_tests}
use Rattle.sem_query.specs.declared.decision.Which.{Which}
use Rattle.sem_query.specs.declared.plan.Plan.{Plan}
use Rattle.sem_query.specs.declared.plan.Plan.TheVariants as plans
use Rattle.sem_query.specs.declared.plan.Numbers.{Numbers}
use Rattle.sem_query.specs.declared.plan.PartPlan.{PartPlan}
use Rattle.sem_query.specs.Query.{QueryValue, is_filter}
use Rattle.sem_query.specs.Numbers.{page_count, pages_of, numbers_of}
use Rattle.sem_query.specs.Verdict.{first_above, verdict_after, verdict_by}
use Rattle.sem_query.specs.Verdict as model
use Rattle.sem_forms.specs.Forms as forms
use Rattle.sem_forms.specs.Forms.{MeetsForm, IsFormPlan, IsFormVerdict}
use Rattle.sem_forms.specs.Parts.{form_numbers, of_filter, of_many_parts, of_violation, of_plan}
use Rattle.sem_forms.proofs.OnePart.{one_part_numbers}
use Rattle.exec_query.specs.Executor.{IsAccepted}
use Rattle.exec_registry.specs.declared.refusal.CreateError.{CreateError}
use Rattle.exec_registry.specs.declared.refusal.CreateError.TheVariants as refusals
use Rattle.exec_registry.specs.Judged.{IsJudged, IsTooLarge, many, large, TellsVerdict, CarriesWhy, verdict_of}

-- the pages are there
room_for : (n free : ℕ) → n ≤ free → nat_lt free n ≡ false
room_for n free h = grind (arith, nat_tests)

no_room_for : (n free : ℕ) → free < n → nat_lt free n ≡ true
no_room_for n free h = grind (arith, nat_tests)

-- within its limits the pages decide
decides : (numbers : Numbers) (free : ℕ) (b : Bool) → first_above numbers ≡ None → nat_lt free (page_count numbers.cells) ≡ b → verdict_by numbers free ≡ cond b model.pool (model.accepted numbers)
decides numbers free b e p = ap (λ w. verdict_after w numbers free) e ∙ ap (λ c. cond c model.pool (model.accepted numbers)) p

-- the verdict of the plan of a query, in either form
of_form : (shared : Bool) (q : QueryValue) (list : List PartPlan) (numbers : Numbers) (free : ℕ) (verdict : model.Verdict) → IsFalse (is_filter q) → MeetsForm q
    → IsFormPlan shared q list → numbers ≡ form_numbers shared q list → verdict_by numbers free ≡ verdict → IsFormVerdict shared q free verdict
of_form shared q list numbers free verdict plain met (forms.whole compact part fits follow is) e v =
    let own : numbers ≡ numbers_of q (part ∷ []) = e ∙ ap (form_numbers shared q) is ∙ one_part_numbers shared q part in
    forms.whole plain compact part fits follow (sym v ∙ ap (λ n. verdict_by n free) own)
of_form shared q list numbers free verdict plain met (forms.parts none p) e v =
    let m = met plain none in
    forms.parts (inr none) (of_plan plain m.0 m.1 list p (sym v ∙ ap (λ n. verdict_by n free) e))

pub tells_accepted : (shared : Bool) (q : QueryValue) (plan : Plan) (free : ℕ) → IsAccepted shared q plan → pages_of plan ≤ free → TellsVerdict shared q free (Ok (verdict_of plan))
tells_accepted shared q plans.Filter free a room = forms.parts (inl a.plan) (of_filter a.plan refl)
tells_accepted shared q (plans.Parts ps numbers) free a room =
    of_form shared q ps numbers free (model.accepted numbers) a.plan.0 a.met a.plan.1 a.plan.2 (decides numbers free false a.within (room_for (page_count numbers.cells) free room))

pub tells_pool : (shared : Bool) (q : QueryValue) (plan : Plan) (free needed : ℕ) → IsAccepted shared q plan → needed ≡ pages_of plan → free < needed → IsFormVerdict shared q free model.pool
tells_pool shared q plans.Filter free needed a e short = absurd (omega (arith, e, short))
tells_pool shared q (plans.Parts ps numbers) free needed a e short =
    of_form shared q ps numbers free model.pool a.plan.0 a.met a.plan.1 a.plan.2 (decides numbers free true a.within (no_room_for (page_count numbers.cells) free (omega (arith, e, short))))

pub tells_limit : (shared : Bool) (q : QueryValue) (which : Which) (value free : ℕ) → IsTooLarge shared q which value → IsFormVerdict shared q free (model.limit which)
tells_limit shared q which value free (many f none m e v) = forms.parts (inr none) (of_many_parts f m (ap (λ w. model.limit w) e))
tells_limit shared q which value free (large none n v o) =
    forms.parts (inr none) (of_plan o.plain n v o.parts o.plan (sym (ap (λ w. verdict_after w (form_numbers shared q o.parts) free) o.first)))

pub tells_refusal : (shared : Bool) (q : QueryValue) (free : ℕ) (why : CreateError) → IsJudged shared q (Err why) → TellsVerdict shared q free (Err why) × CarriesWhy shared q free (Err why)
tells_refusal shared q free (refusals.Violation p c a) j = (forms.parts (inr j.0) (of_violation j.1 j.2 (record { part = p; condition = c; attr = a }) j.3 refl), (j.0, j.3))
tells_refusal shared q free (refusals.Limit which value m) j = (tells_limit shared q which value free j.0, j)
tells_refusal shared q free (refusals.Pool needed f) j = absurd j
tells_refusal shared q free refusals.Memory j = (tt, tt)
