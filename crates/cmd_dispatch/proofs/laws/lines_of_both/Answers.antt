use Rattle.cmd_dispatch.proofs.WholeLines.{lines-whole}
use Rattle.cmd_dispatch.proofs.laws.lines_of_both.Goals as goal

pub returns : goal.returns
returns c = lines-whole
