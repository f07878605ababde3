use Rattle.law_lock.proofs.Told.{replies_are_short as law}
use Rattle.law_lock.proofs.laws.replies_are_short.Goals as goal

pub returns : goal.returns
returns c = law
