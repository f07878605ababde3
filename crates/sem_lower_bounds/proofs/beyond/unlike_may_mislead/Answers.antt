use Rattle.sem_lower_bounds.proofs.Unlike.{unlike-may-mislead}
use Rattle.sem_lower_bounds.proofs.beyond.unlike_may_mislead.Goals as goal

pub returns : goal.returns
returns c = unlike-may-mislead
