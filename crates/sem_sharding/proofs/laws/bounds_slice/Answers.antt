use Rattle.sem_sharding.proofs.Slices.{bounds-slice}
use Rattle.sem_sharding.proofs.laws.bounds_slice.Goals as goal

pub returns : goal.returns
returns c = bounds-slice
