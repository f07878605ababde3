use Rattle.law_lock.proofs.Exchanged.{lines_are_exchanged as law}
use Rattle.law_lock.proofs.laws.lines_are_exchanged.Goals as goal

pub returns : goal.returns
returns c = law
