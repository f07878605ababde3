use Rattle.sem_laws.proofs.Tying.{ranges-are-exact}
use Rattle.sem_laws.proofs.laws.ranges_are_exact.Goals as goal

pub returns : goal.returns
returns c = ranges-are-exact
