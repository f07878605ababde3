use Rattle.sem_whole.proofs.Formed.{well_formed}
use Rattle.sem_whole.proofs.laws.queries_are_well_formed.Goals as goal

pub returns : goal.returns
returns c = well_formed
