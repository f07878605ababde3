use Rattle.plan_whole_form.proofs.Conditioned.{column_known}
use Rattle.plan_whole_form.proofs.conditions.column_in.Goals as goal

pub returns : goal.returns
returns c = λ q n. column_known q c.args.a c.args.columns.now c.from.result c.from.ensures c.requires n
