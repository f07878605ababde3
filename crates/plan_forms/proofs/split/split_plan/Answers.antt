use Rattle.plan_forms.proofs.Told.{refused_told}
use Rattle.plan_forms.proofs.split.split_plan.Goals as goal

pub returns-in-Err : goal.returns-in-Err
returns-in-Err c = refused_told c.args.shared c.args.q.now c.in-Err.why c.in-Err.ensures
