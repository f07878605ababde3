use Rattle.std.proofs.Common.{sym, ◌∙◌}
use Rattle.plan_forms.proofs.Cheaper.{plain_answer}
use Rattle.plan_forms.proofs.form.form_plan.Goals as goal

pub returns-else-compact : goal.returns-else-compact
returns-else-compact c = plain_answer c.args.shared c.args.q.now (sym c.compact.ensures ∙ c.if-compact.false) c.plain_plan.result c.plain_plan.ensures
