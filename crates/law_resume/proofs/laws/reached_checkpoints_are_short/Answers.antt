use Rattle.law_resume.proofs.Reached.{reached_checkpoints_are_short}
use Rattle.law_resume.proofs.laws.reached_checkpoints_are_short.Goals as goal

pub returns : goal.returns
returns c = reached_checkpoints_are_short
