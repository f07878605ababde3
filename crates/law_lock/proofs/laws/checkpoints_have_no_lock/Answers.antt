use Rattle.law_lock.proofs.Keeping.{checkpoints_have_no_lock as law}
use Rattle.law_lock.proofs.laws.checkpoints_have_no_lock.Goals as goal

pub returns : goal.returns
returns c = law
