use Rattle.sem_sharding.proofs.Checkpoints.{cells-of-shards-merge}
use Rattle.sem_sharding.proofs.laws.cells_of_shards_merge.Goals as goal

pub returns : goal.returns
returns c = cells-of-shards-merge
