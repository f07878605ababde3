-- What `advise` finds of a query is what a session decides.
use Rattle.std.proofs.Common.{◌≡◌, ℕ, Bool, true, false, not, if◌then◌else◌, List, [], ◌∷◌, inl, inr, refl, sym, ap, ◌∙◌, None, nat_lt}
use Rattle.sem_query.specs.Query.{QueryValue}
use Rattle.sem_query.specs.Numbers.{page_count, pages_of, numbers_of}
use Rattle.sem_query.specs.declared.decision.Which.TheVariants.{Parts}
use Rattle.sem_query.specs.declared.plan.Numbers.{Numbers}
use Rattle.sem_query.specs.declared.plan.Plan.{Plan}
use Rattle.sem_query.specs.declared.plan.Plan.TheVariants as plans
use Rattle.sem_query.specs.Verdict as verdicts
use Rattle.sem_query.specs.Verdict.{Verdict, verdict_after, verdict_by}
use Rattle.sem_forms.specs.Parts.{form_numbers, of_filter, of_many_parts, of_violation, of_plan}
use Rattle.sem_forms.specs.Forms.{IsFormPlan, IsFormVerdict}
use Rattle.sem_forms.specs.Forms as forms
use Rattle.sem_forms.proofs.Forms.{has_one_form_verdict}
use Rattle.sem_forms.proofs.OnePart.{one_part_numbers}
use Rattle.adv_mends.specs.declared.judging.Judgement.{Judgement}
use Rattle.adv_mends.specs.declared.judging.Judgement.TheVariants as judgement
use Rattle.adv_mends.specs.Numbered.{IsJudgement}
use Rattle.cmd_advise.specs.State.{pages_for, is_accepted}
use Rattle.cmd_session.specs.Answer.{Answer, registered, decided}
use Rattle.cmd_session.specs.Answers.{IsDecided, accepted, rejected, acceptance, is_refusal}

-- the verdict that a judgement comes to where so many pages are free
abbrev verdict_for : ℕ → Judgement → Verdict
verdict_for free judgement.Filter = verdicts.filter
verdict_for free (judgement.Accepted numbers) = verdict_after None numbers free
verdict_for free (judgement.Above which value) = verdicts.limit which
verdict_for free (judgement.Violation part condition attr) = verdicts.violation (record { part = part; condition = condition; attr = attr })
verdict_for free judgement.ManyParts = verdicts.limit Parts

judged : (shared : Bool) (q : QueryValue) (free : ℕ) (j : Judgement) → IsJudgement shared q j → IsFormVerdict shared q free (verdict_for free j)
judged shared q free judgement.Filter h = forms.parts (inl h) (of_filter h refl)
judged shared q free (judgement.Accepted numbers) h = by h.2.plan
  where
    -- by these numbers, which are its own
    own : (others : Numbers) → numbers ≡ others → verdict_after None numbers free ≡ verdict_by others free
    own others e = ap (λ o. verdict_after o numbers free) (sym h.2.within) ∙ ap (λ n. verdict_by n free) e

    by : IsFormPlan shared q h.2.parts → IsFormVerdict shared q free (verdict_after None numbers free)
    by (forms.whole c part fits follow e) =
        forms.whole h.0 c part fits follow (own (numbers_of q (part ∷ [])) (h.2.are ∙ ap (form_numbers shared q) e ∙ one_part_numbers shared q part))
    by (forms.parts none is) =
        let met = h.1 h.0 none in
        forms.parts (inr none) (of_plan h.0 met.0 met.1 h.2.parts is (own (form_numbers shared q h.2.parts) h.2.are))
judged shared q free (judgement.Above which value) h =
    forms.parts (inr h.0)
    (of_plan h.2.plain (h.1.few h.2.plain) h.1.violation h.2.parts h.2.plan (ap (λ o. verdict_after o (form_numbers shared q h.2.parts) free) (sym h.2.first)))
judged shared q free (judgement.Violation part condition attr) h =
    forms.parts (inr h.0) (of_violation h.1 h.2 (record { part = part; condition = condition; attr = attr }) h.3 refl)
judged shared q free judgement.ManyParts h = forms.parts (inr h.0) (of_many_parts h.1 h.2 refl)

-- a judgement accepts where its verdict does
accepts_alike : (free : ℕ) (j : Judgement) → is_accepted free j ≡ not (is_refusal (verdict_for free j))
accepts_alike free judgement.Filter = refl
accepts_alike free (judgement.Accepted numbers) = by (nat_lt free (page_count numbers.cells))
  where
    by : (b : Bool) → not b ≡ not (is_refusal (if b then verdicts.pool else verdicts.accepted numbers))
    by true = refl
    by false = refl
accepts_alike free (judgement.Above which value) = refl
accepts_alike free (judgement.Violation part condition attr) = refl
accepts_alike free judgement.ManyParts = refl

-- the pages of a query that is answered so
abbrev pages_in : Verdict → ℕ
pages_in verdicts.filter = 0
pages_in (verdicts.violation f) = 0
pages_in (verdicts.limit which) = 0
pages_in verdicts.pool = 0
pages_in (verdicts.accepted numbers) = page_count numbers.cells

pages_alike : (free : ℕ) (j : Judgement) → is_accepted free j ≡ true → pages_for j ≡ pages_in (verdict_for free j)
pages_alike free judgement.Filter h = refl
pages_alike free (judgement.Accepted numbers) h = by (nat_lt free (page_count numbers.cells)) h
  where
    by : (b : Bool) → not b ≡ true → page_count numbers.cells ≡ pages_in (if b then verdicts.pool else verdicts.accepted numbers)
    by true e = cc
    by false e = refl
pages_alike free (judgement.Above which value) h = refl
pages_alike free (judgement.Violation part condition attr) h = refl
pages_alike free judgement.ManyParts h = refl

pages_planned : (plan : Plan) → pages_of plan ≡ pages_in (acceptance plan)
pages_planned plans.Filter = refl
pages_planned (plans.Parts ps numbers) = refl

never_refused : (plan : Plan) → is_refusal (acceptance plan) ≡ false
never_refused plans.Filter = refl
never_refused (plans.Parts ps numbers) = refl

-- a query is accepted with a plan of these pages, or it is refused
pub data IsSettled (name : List ℕ) (q : QueryValue) (shared : Bool) (free : ℕ) (j : Judgement) (answer : Answer) : Type 0 where
  registers : (plan : Plan) → answer ≡ registered name q shared plan → is_accepted free j ≡ true → pages_for j ≡ pages_of plan → IsSettled name q shared free j answer
  refuses : (verdict : Verdict) → answer ≡ decided name q verdict → is_accepted free j ≡ false → IsSettled name q shared free j answer

pub settled : (name : List ℕ) (q : QueryValue) (shared : Bool) (free : ℕ) (j : Judgement) (answer : Answer) → IsJudgement shared q j → IsDecided name q shared free answer → IsSettled name q shared free j answer
settled name q shared free j answer h (accepted plan p v e) =
    let same : acceptance plan ≡ verdict_for free j = has_one_form_verdict shared q free (acceptance plan) (verdict_for free j) v (judged shared q free j h) in
    let sure : is_accepted free j ≡ true = accepts_alike free j ∙ ap (λ w. not (is_refusal w)) (sym same) ∙ ap not (never_refused plan) in
    registers plan e sure (pages_alike free j sure ∙ ap pages_in (sym same) ∙ sym (pages_planned plan))
settled name q shared free j answer h (rejected verdict v r e) =
    let same : verdict ≡ verdict_for free j = has_one_form_verdict shared q free verdict (verdict_for free j) v (judged shared q free j h) in
    refuses verdict e (accepts_alike free j ∙ ap (λ w. not (is_refusal w)) (sym same) ∙ ap not r)
