use Rattle.sem_laws.proofs.WaitingCounts.{waiting-counts-fit}
use Rattle.sem_laws.proofs.laws.waiting_counts_fit.Goals as goal

pub returns : goal.returns
returns c = waiting-counts-fit
