-- What a judgement comes to in a session with no other query.
use Rattle.std.proofs.Common.{◌≡◌, inl, inr, Bool, true, false, if◌then◌else◌, IsTrue, IsFalse, List, [], ◌∷◌, Option, refl, sym, ap, subst, ◌∙◌, None, Some, nat_lt, arith}
use Rattle.std.proofs.lemmas.Bool.Decides.{nat_tests}
use Rattle.sem_query.specs.Query.{QueryValue, IsWithinLimits, is_filter}
use Rattle.sem_query.specs.Numbers.{page_count, numbers_of}
use Rattle.sem_query.specs.declared.decision.Which.{Which}
use Rattle.sem_query.specs.declared.decision.Which.TheVariants.{Parts, Cells, Answers, Work}
use Rattle.sem_query.specs.declared.plan.Numbers.{Numbers}
use Rattle.sem_query.specs.declared.plan.PartPlan.{PartPlan}
use Rattle.sem_query.specs.Verdict as verdicts
use Rattle.sem_query.specs.Verdict.{Verdict, verdict_after, verdict_by, first_above}
use Rattle.sem_forms.specs.Parts.{form_numbers, of_filter, of_many_parts, of_violation, of_plan}
use Rattle.sem_forms.specs.Forms as forms
use Rattle.sem_forms.specs.Forms.{MeetsForm, IsFormPlan, IsFormVerdict}
use Rattle.sem_forms.proofs.Forms.{has_one_form_verdict}
use Rattle.sem_forms.proofs.OnePart.{one_part_numbers}
use Rattle.adv_mends.specs.declared.judging.Judgement.{Judgement}
use Rattle.adv_mends.specs.declared.judging.Judgement.TheVariants as judgement
use Rattle.adv_mends.specs.Numbered.{IsJudgement}
use Rattle.adv_key_ranges.specs.Accepted.{IsAccepted, IsLimitOf, has_numbers, limit_in}

-- numbers within their limits have no more than 4,096 pages
few_pages : (numbers : Numbers) → first_above numbers ≡ None → nat_lt 16384 (page_count numbers.cells) ≡ false
few_pages numbers e = by (nat_lt 262144 numbers.cells) refl where
  by : (b : Bool) → nat_lt 262144 numbers.cells ≡ b → nat_lt 16384 (page_count numbers.cells) ≡ false
  by true f = absurd (let g : Some Cells ≡ None = subst (λ (z : Bool). (if z then Some Cells else (if nat_lt 65536 numbers.answers then Some Answers else (if nat_lt 4194304 numbers.work then Some Work else None))) ≡ None) f e in cc)
  by false f = grind (arith, nat_tests)

-- the verdict that a judgement comes to where all pages are free
abbrev verdict_for : Judgement → Verdict
verdict_for judgement.Filter = verdicts.filter
verdict_for (judgement.Accepted numbers) = verdicts.accepted numbers
verdict_for (judgement.Above which value) = verdicts.limit which
verdict_for (judgement.Violation part condition attr) = verdicts.violation (record { part = part; condition = condition; attr = attr })
verdict_for judgement.ManyParts = verdicts.limit Parts

-- numbers that are within their limits are those that are accepted there
within : (numbers : Numbers) → first_above numbers ≡ None → verdicts.accepted numbers ≡ verdict_by numbers 16384
within numbers e =
    sym (ap (λ (b : Bool). if b then verdicts.pool else verdicts.accepted numbers) (few_pages numbers e)) ∙ ap (λ o. verdict_after o numbers 16384) (sym e)

accepted_as : (shared : Bool) (q : QueryValue) (numbers : Numbers) → IsFalse (is_filter q) → MeetsForm q → (list : List PartPlan) → IsFormPlan shared q list → numbers ≡ form_numbers shared q list → first_above numbers ≡ None
    → IsFormVerdict shared q 16384 (verdicts.accepted numbers)
accepted_as shared q numbers plain met list (forms.whole compact part fits follow e) are w =
    let own : numbers ≡ numbers_of q (part ∷ []) = are ∙ ap (form_numbers shared q) e ∙ one_part_numbers shared q part in
    forms.whole plain compact part fits follow (within numbers w ∙ ap (λ n. verdict_by n 16384) own)
accepted_as shared q numbers plain met list (forms.parts none p) are w =
    let m = met plain none in
    forms.parts (inr none) (of_plan plain m.0 m.1 list p (within numbers w ∙ ap (λ n. verdict_by n 16384) are))

judged : (shared : Bool) (q : QueryValue) (j : Judgement) → IsJudgement shared q j → IsFormVerdict shared q 16384 (verdict_for j)
judged shared q judgement.Filter h = forms.parts (inl h) (of_filter h refl)
judged shared q (judgement.Accepted numbers) h = accepted_as shared q numbers h.0 h.1 h.2.parts h.2.plan h.2.are h.2.within
judged shared q (judgement.Above which value) h =
    forms.parts (inr h.0) (of_plan h.2.plain (h.1.few h.2.plain) h.1.violation h.2.parts h.2.plan (ap (λ o. verdict_after o (form_numbers shared q h.2.parts) 16384) (sym h.2.first)))
judged shared q (judgement.Violation part condition attr) h = forms.parts (inr h.0) (of_violation h.1 h.2 (record { part = part; condition = condition; attr = attr }) h.3 refl)
judged shared q judgement.ManyParts h = forms.parts (inr h.0) (of_many_parts h.1 h.2 refl)

-- what a judgement says of acceptance
accepts : (shared : Bool) (q : QueryValue) (j : Judgement) → IsWithinLimits q → IsFormVerdict shared q 16384 (verdict_for j) → has_numbers j ≡ true → IsAccepted shared q
accepts shared q judgement.Filter w v e = absurd cc
accepts shared q (judgement.Accepted numbers) w v e = record { limits = w; numbers = numbers; verdict = v }
accepts shared q (judgement.Above which value) w v e = absurd cc
accepts shared q (judgement.Violation part condition attr) w v e = absurd cc
accepts shared q judgement.ManyParts w v e = absurd cc

has-numbers : (j : Judgement) (numbers : Numbers) → verdict_for j ≡ verdicts.accepted numbers → has_numbers j ≡ true
has-numbers judgement.Filter numbers e = absurd cc
has-numbers (judgement.Accepted own) numbers e = refl
has-numbers (judgement.Above which value) numbers e = absurd cc
has-numbers (judgement.Violation part condition attr) numbers e = absurd cc
has-numbers judgement.ManyParts numbers e = absurd cc

pub accepted-by : (shared : Bool) (q : QueryValue) (j : Judgement) (b : Bool) → IsWithinLimits q → IsJudgement shared q j → b ≡ has_numbers j → (IsTrue b → IsAccepted shared q) × (IsAccepted shared q → IsTrue b)
accepted-by shared q j b w h e = (
  (λ t. accepts shared q j w (judged shared q j h) (sym e ∙ t)),
  (λ a. e ∙ has-numbers j a.numbers (has_one_form_verdict shared q 16384 (verdict_for j) (verdicts.accepted a.numbers) (judged shared q j h) a.verdict)),
)

-- what it says of limits
no_limit : (j : Judgement) (which : Which) → limit_in j ≡ None → verdict_for j ≡ verdicts.limit which → ⊥
no_limit judgement.Filter which e f = cc
no_limit (judgement.Accepted numbers) which e f = cc
no_limit (judgement.Above own value) which e f = cc
no_limit (judgement.Violation part condition attr) which e f = cc
no_limit judgement.ManyParts which e f = cc

own_limit : (j : Judgement) (which : Which) → limit_in j ≡ Some which → verdict_for j ≡ verdicts.limit which
own_limit judgement.Filter which e = absurd cc
own_limit (judgement.Accepted numbers) which e = absurd cc
own_limit (judgement.Above own value) which e = cc
own_limit (judgement.Violation part condition attr) which e = absurd cc
own_limit judgement.ManyParts which e = cc

pub limit-by : (shared : Bool) (q : QueryValue) (j : Judgement) (o : Option Which) → IsJudgement shared q j → o ≡ limit_in j → IsLimitOf shared q o
limit-by shared q j None h e = λ which v. no_limit j which (sym e) (has_one_form_verdict shared q 16384 (verdict_for j) (verdicts.limit which) (judged shared q j h) v)
limit-by shared q j (Some which) h e = subst (λ (v : Verdict). IsFormVerdict shared q 16384 v) (own_limit j which (sym e)) (judged shared q j h)
