use Rattle.law_resume.proofs.Restored.{checkpoint_goes_on}
use Rattle.law_resume.proofs.laws.checkpoint_goes_on.Goals as goal

pub returns : goal.returns
returns c = checkpoint_goes_on
