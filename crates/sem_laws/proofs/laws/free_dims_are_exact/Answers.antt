use Rattle.sem_laws.proofs.Fixed.{free-dims-are-exact}
use Rattle.sem_laws.proofs.laws.free_dims_are_exact.Goals as goal

pub returns : goal.returns
returns c = free-dims-are-exact
