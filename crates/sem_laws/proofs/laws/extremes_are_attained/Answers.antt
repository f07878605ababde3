use Rattle.sem_laws.proofs.Inserting.{extremes-are-attained}
use Rattle.sem_laws.proofs.laws.extremes_are_attained.Goals as goal

pub returns : goal.returns
returns c = extremes-are-attained
