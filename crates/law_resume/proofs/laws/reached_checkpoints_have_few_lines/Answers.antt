use Rattle.law_resume.proofs.Reached.{reached_checkpoints_have_few_lines}
use Rattle.law_resume.proofs.laws.reached_checkpoints_have_few_lines.Goals as goal

pub returns : goal.returns
returns c = reached_checkpoints_have_few_lines
