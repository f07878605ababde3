use Rattle.sem_laws.proofs.Examples.{extremes-decide}
use Rattle.sem_laws.proofs.laws.extremes_decide.Goals as goal

pub returns : goal.returns
returns c = extremes-decide
