use Rattle.cmd_each.proofs.OneLineLaw.{one_line}
use Rattle.cmd_each.proofs.laws.one_line.Goals as goal

pub returns : goal.returns
returns c = one_line
