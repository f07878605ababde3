use Rattle.std.proofs.Common.{◌≡◌, ◌↔◌, true, sym, subst}
use Rattle.std.specs.Prelude.{Ok, Err}
use Rattle.sem_laws.proofs.Tests.{not_both}
use Rattle.plan_layout.specs.Layout.{numbers_in}
use Rattle.sem_forms.specs.Fitting.{HasCheaperParts}
use Rattle.plan_forms.specs.declared.error.PartsRefusal.{PartsRefusal}
use Rattle.plan_forms.specs.declared.error.PartsRefusal.TheVariants as why
use Rattle.plan_forms.specs.Few.{IsFewForm}
use Rattle.plan_forms.specs.Fitting.{AreCheaperWithin}
use Rattle.plan_forms.proofs.Cheaper.{by_drafts, none_by}
use Rattle.plan_forms.proofs.FewParts.{many_dear}
use Rattle.plan_forms.proofs.whole.cheaper_parts.Goals as goal

pub returns-then-are_cheaper : goal.returns-then-are_cheaper
returns-then-are_cheaper c =
    let linked : true ≡ _ = c.if-not-has_unlike_link.ensures in
    let told = by_drafts c.args.q.now c.args.whole.now.part c.requires.compact c.requires.plain c.from-from.ensures.limits c.in-Ok.parts c.args.whole.now.numbers c.in-Ok.ensures (sym linked) c.requires.numbers in
    (told.0 (c.are_cheaper.ensures.0 c.if-are_cheaper.true), c.in-Ok.ensures)

pub returns-else-are_cheaper : goal.returns-else-are_cheaper
returns-else-are_cheaper c =
    let linked : true ≡ _ = c.if-not-has_unlike_link.ensures in
    let told = by_drafts c.args.q.now c.args.whole.now.part c.requires.compact c.requires.plain c.from-from.ensures.limits c.in-Ok.parts c.args.whole.now.numbers c.in-Ok.ensures (sym linked) c.requires.numbers in
    λ h. not_both c.are_cheaper.result (c.are_cheaper.ensures.1 (told.1 h)) c.if-are_cheaper.false

pub returns-in-Err-TooManyParts : goal.returns-in-Err-TooManyParts
returns-in-Err-TooManyParts c =
    many_dear c.args.q.now c.args.whole.now.part (subst (λ (w : PartsRefusal). IsFewForm c.args.q.now (Err w)) c.in-Err-TooManyParts.field-0-is (subst (IsFewForm c.args.q.now) c.in-Err-TooManyParts.is c.few_form.ensures))

pub returns-in-Err-Violation : goal.returns-in-Err-Violation
returns-in-Err-Violation c =
    none_by c.args.q.now c.args.whole.now.part c.requires.compact c.requires.plain c.from-from.ensures.limits (why.Violation c.in-Err-Violation.field-0-0 c.in-Err-Violation.field-0-1 c.in-Err-Violation.field-0-2) (λ e. cc)
    (subst (λ (w : PartsRefusal). IsFewForm c.args.q.now (Err w)) c.in-Err-Violation.field-0-is (subst (IsFewForm c.args.q.now) c.in-Err-Violation.is c.few_form.ensures))

pub returns-in-Err-Limit : goal.returns-in-Err-Limit
returns-in-Err-Limit c = absurd (subst (λ (w : PartsRefusal). IsFewForm c.args.q.now (Err w)) c.in-Err-Limit.field-0-is (subst (IsFewForm c.args.q.now) c.in-Err-Limit.is c.few_form.ensures))
