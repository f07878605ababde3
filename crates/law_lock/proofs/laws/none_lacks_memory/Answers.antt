use Rattle.law_lock.proofs.Keeping.{none_lacks_memory as law}
use Rattle.law_lock.proofs.laws.none_lacks_memory.Goals as goal

pub returns : goal.returns
returns c = law
