use Rattle.law_lock.proofs.Without.{without_lock_all_are_let as law}
use Rattle.law_lock.proofs.laws.without_lock_all_are_let.Goals as goal

pub returns : goal.returns
returns c = law
