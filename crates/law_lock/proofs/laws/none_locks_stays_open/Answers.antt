use Rattle.law_lock.proofs.Without.{none_locks_stays_open as law}
use Rattle.law_lock.proofs.laws.none_locks_stays_open.Goals as goal

pub returns : goal.returns
returns c = law
