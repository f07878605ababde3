use Rattle.sem_laws.proofs.Sufficiency.{synopsis-suffices}
use Rattle.sem_laws.proofs.laws.synopsis_suffices.Goals as goal

pub returns : goal.returns
returns c = synopsis-suffices
