use Rattle.sem_lower_bounds.proofs.FewStates.{polynomially-many-are-few}
use Rattle.sem_lower_bounds.proofs.accepted.polynomially_many_are_few.Goals as goal

pub returns : goal.returns
returns c = polynomially-many-are-few
