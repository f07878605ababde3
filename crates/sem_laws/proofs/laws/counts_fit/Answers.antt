use Rattle.sem_laws.proofs.Interleaving.{counts-fit}
use Rattle.sem_laws.proofs.laws.counts_fit.Goals as goal

pub returns : goal.returns
returns c = counts-fit
