use Rattle.law_resume.proofs.Reached.{checkpoint_of_reached}
use Rattle.law_resume.proofs.laws.checkpoint_of_reached.Goals as goal

pub returns : goal.returns
returns c = checkpoint_of_reached
