use Rattle.sem_laws.proofs.Sufficiency.{readings-suffice}
use Rattle.sem_laws.proofs.laws.readings_suffice.Goals as goal

pub returns : goal.returns
returns c = readings-suffice
