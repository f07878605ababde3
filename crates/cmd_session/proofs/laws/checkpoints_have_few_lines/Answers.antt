use Rattle.cmd_session.proofs.FewLines.{few_lines}
use Rattle.cmd_session.proofs.laws.checkpoints_have_few_lines.Goals as goal

pub returns : goal.returns
returns c = few_lines
