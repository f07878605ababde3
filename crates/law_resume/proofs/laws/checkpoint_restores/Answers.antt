use Rattle.law_resume.proofs.Restored.{checkpoint_restores}
use Rattle.law_resume.proofs.laws.checkpoint_restores.Goals as goal

pub returns : goal.returns
returns c = checkpoint_restores
