use Rattle.sem_whole.proofs.Nodes.{ranges_are_told}
use Rattle.sem_whole.proofs.laws.ranges_are_told.Goals as goal

pub returns : goal.returns
returns c = ranges_are_told
