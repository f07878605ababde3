use Rattle.sem_laws.proofs.Interleaving.{any-interleaving}
use Rattle.sem_laws.proofs.laws.any_interleaving.Goals as goal

pub returns : goal.returns
returns c = any-interleaving
