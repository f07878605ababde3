use Rattle.sem_laws.proofs.SharedCells.{bases-grow}
use Rattle.sem_laws.proofs.laws.bases_grow.Goals as goal

pub returns : goal.returns
returns c = bases-grow
