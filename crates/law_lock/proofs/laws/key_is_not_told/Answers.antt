use Rattle.law_lock.proofs.Told.{key_is_not_told as law}
use Rattle.law_lock.proofs.laws.key_is_not_told.Goals as goal

pub returns : goal.returns
returns c = law
