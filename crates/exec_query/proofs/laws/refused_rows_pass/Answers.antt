use Rattle.exec_query.proofs.PassingOn.{refused-rows-pass}
use Rattle.exec_query.proofs.laws.refused_rows_pass.Goals as goal

pub returns : goal.returns
returns c = refused-rows-pass
