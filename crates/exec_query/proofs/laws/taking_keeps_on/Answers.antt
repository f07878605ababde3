use Rattle.exec_query.proofs.Bases.{taking-keeps-on}
use Rattle.exec_query.proofs.laws.taking_keeps_on.Goals as goal

pub returns : goal.returns
returns c = taking-keeps-on
