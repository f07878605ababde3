use Rattle.sem_whole.proofs.Nodes.{bounds_are_implied}
use Rattle.sem_whole.proofs.laws.bounds_are_implied.Goals as goal

pub returns : goal.returns
returns c = bounds_are_implied
