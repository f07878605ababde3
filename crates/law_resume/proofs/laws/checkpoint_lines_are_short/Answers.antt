use Rattle.law_resume.proofs.ShortLines.{checkpoint_lines_are_short}
use Rattle.law_resume.proofs.laws.checkpoint_lines_are_short.Goals as goal

pub returns : goal.returns
returns c = checkpoint_lines_are_short
