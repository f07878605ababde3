use Rattle.law_resume.proofs.KeptLines.{kept_is_restored}
use Rattle.law_resume.proofs.laws.kept_is_restored.Goals as goal

pub returns : goal.returns
returns c = kept_is_restored
