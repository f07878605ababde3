use Rattle.sem_laws.proofs.Instance.{premises-are-met}
use Rattle.sem_laws.proofs.laws.premises_are_met.Goals as goal

pub returns : goal.returns
returns c = premises-are-met
