use Rattle.sem_laws.proofs.Sufficiency.{synopsis-is-read}
use Rattle.sem_laws.proofs.laws.synopsis_is_read.Goals as goal

pub returns : goal.returns
returns c = synopsis-is-read
