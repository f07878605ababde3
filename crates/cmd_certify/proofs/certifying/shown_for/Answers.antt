use Rattle.std.proofs.Common.{sym, ◌∙◌, subst}
use Rattle.sem_forms.specs.Forms.{IsWholeFormOr}
use Rattle.cmd_certify.specs.Judged.{plain, whole, split}
use Rattle.cmd_certify.proofs.certifying.shown_for.Goals as goal

pub returns-then-not-goes_by_form : goal.returns-then-not-goes_by_form
returns-then-not-goes_by_form c = plain (sym c.goes_by_form.ensures ∙ c.if-not-goes_by_form.true)

pub returns-in-Some : goal.returns-in-Some
returns-in-Some c = whole (sym c.goes_by_form.ensures ∙ c.if-not-goes_by_form.false) (subst (IsWholeFormOr c.args.q.now) c.in-Some.is c.in_ok-_plan.ensures).0

pub returns-in-None : goal.returns-in-None
returns-in-None c = split (sym c.goes_by_form.ensures ∙ c.if-not-goes_by_form.false) (subst (IsWholeFormOr c.args.q.now) c.in-None.is c.in_ok-_plan.ensures)
