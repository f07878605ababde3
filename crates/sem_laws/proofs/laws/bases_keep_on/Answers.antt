use Rattle.sem_laws.proofs.Bases.{bases-keep-on}
use Rattle.sem_laws.proofs.laws.bases_keep_on.Goals as goal

pub returns : goal.returns
returns c = bases-keep-on
