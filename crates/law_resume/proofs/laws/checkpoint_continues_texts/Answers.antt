use Rattle.law_resume.proofs.ReachedTexts.{checkpoint_continues_texts}
use Rattle.law_resume.proofs.laws.checkpoint_continues_texts.Goals as goal

pub returns : goal.returns
returns c = checkpoint_continues_texts
