use Rattle.sem_laws.proofs.Inserting.{future-is-determined}
use Rattle.sem_laws.proofs.laws.future_is_determined.Goals as goal

pub returns : goal.returns
returns c = future-is-determined
