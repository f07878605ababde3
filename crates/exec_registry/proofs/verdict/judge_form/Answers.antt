use Rattle.std.proofs.Common.{subst, Err}
use Rattle.plan_forms.specs.Planned.{IsFormAnswer}
use Rattle.exec_registry.specs.Judged.{large}
use Rattle.exec_registry.proofs.Verdicts.{form_accepted}
use Rattle.exec_registry.proofs.verdict.judge_form.Goals as goal

pub returns-in-Ok : goal.returns-in-Ok
returns-in-Ok c = form_accepted c.args.shared c.args.query.now c.in-Ok.plan c.requires c.in-Ok.ensures

pub returns-in-Err-Violation : goal.returns-in-Err-Violation
returns-in-Err-Violation c =
    let h = subst (λ e. IsFormAnswer c.args.shared c.args.query.now (Err e)) c.in-Err-Violation.field-0-is c.in-Err-Violation.ensures in
    (h.0, c.requires, h.1.0, h.1.1)

pub returns-in-Err-Limit : goal.returns-in-Err-Limit
returns-in-Err-Limit c =
    let h = subst (λ e. IsFormAnswer c.args.shared c.args.query.now (Err e)) c.in-Err-Limit.field-0-is c.in-Err-Limit.ensures in
    (large h.0 h.1.0.few h.1.0.none h.1.1, c.most.ensures)
