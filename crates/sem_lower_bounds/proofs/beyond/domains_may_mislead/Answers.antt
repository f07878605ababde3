use Rattle.sem_lower_bounds.proofs.Closed.{domains-may-mislead}
use Rattle.sem_lower_bounds.proofs.beyond.domains_may_mislead.Goals as goal

pub returns : goal.returns
returns c = domains-may-mislead
