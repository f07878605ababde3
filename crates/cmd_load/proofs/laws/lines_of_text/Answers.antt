use Rattle.cmd_load.proofs.TextLines.{has_its_lines}
use Rattle.cmd_load.proofs.laws.lines_of_text.Goals as goal

pub returns : goal.returns
returns c = has_its_lines
