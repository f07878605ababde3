use Rattle.law_lock.proofs.Keeping.{lock_keeps as law}
use Rattle.law_lock.proofs.laws.lock_keeps.Goals as goal

pub returns : goal.returns
returns c = law
