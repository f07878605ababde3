use Rattle.sem_lower_bounds.proofs.Loose.{soft-may-mislead}
use Rattle.sem_lower_bounds.proofs.beyond.soft_may_mislead.Goals as goal

pub returns : goal.returns
returns c = soft-may-mislead
