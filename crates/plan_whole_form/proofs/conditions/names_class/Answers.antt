use Rattle.plan_whole_form.proofs.Conditioned.{names_told}
use Rattle.plan_whole_form.proofs.conditions.names_class.Goals as goal

pub returns : goal.returns
returns c = λ q n. names_told q c.args.a c.column_in.result.name c.is_same.result (c.column_in.ensures q n).name c.is_same.ensures
