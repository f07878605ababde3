use Rattle.std.proofs.Common.{subst, sym, ◌∙◌, Ok, Err}
use Rattle.sem_query.specs.declared.plan.Plan.{Plan}
use Rattle.sem_query.specs.declared.plan.Plan.TheVariants as plans
use Rattle.plan_forms.specs.Planned.{IsFormAnswer}
use Rattle.adv_mends.proofs.FormJudged.{judged}
use Rattle.adv_mends.proofs.judging.judge.Goals as goal

pub returns-in-Ok-Filter : goal.returns-in-Ok-Filter
returns-in-Ok-Filter c =
    judged c.args.shared c.args.query.now plans.Filter (sym c.is_filter.ensures ∙ c.if-is_filter.false)
    (subst (λ (p : Plan). IsFormAnswer c.args.shared c.args.query.now (Ok p)) c.in-Ok-Filter.field-0-is c.in-Ok-Filter.ensures)

pub returns-in-Ok-Parts : goal.returns-in-Ok-Parts
returns-in-Ok-Parts c =
    judged c.args.shared c.args.query.now (plans.Parts c.in-Ok-Parts.field-0-0 c.in-Ok-Parts.numbers) (sym c.is_filter.ensures ∙ c.if-is_filter.false)
    (subst (λ (p : Plan). IsFormAnswer c.args.shared c.args.query.now (Ok p)) c.in-Ok-Parts.field-0-is c.in-Ok-Parts.ensures)

pub returns-in-Err-Violation : goal.returns-in-Err-Violation
returns-in-Err-Violation c =
    let h = subst (λ e. IsFormAnswer c.args.shared c.args.query.now (Err e)) c.in-Err-Violation.field-0-is c.in-Err-Violation.ensures in
    (h.0, sym c.is_filter.ensures ∙ c.if-is_filter.false, h.1.0, h.1.1)

pub returns-in-Err-Limit : goal.returns-in-Err-Limit
returns-in-Err-Limit c =
    let h = subst (λ e. IsFormAnswer c.args.shared c.args.query.now (Err e)) c.in-Err-Limit.field-0-is c.in-Err-Limit.ensures in
    (h.0, record { few = λ plain. h.1.0.few; violation = h.1.0.none }, h.1.1)
