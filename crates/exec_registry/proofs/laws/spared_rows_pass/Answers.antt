use Rattle.exec_registry.proofs.Passing.{spared_rows_pass}
use Rattle.exec_registry.proofs.laws.spared_rows_pass.Goals as goal

pub returns : goal.returns
returns c = spared_rows_pass
