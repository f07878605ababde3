use Rattle.sem_sharding.proofs.Checkpoints.{tables-of-shards-merge}
use Rattle.sem_sharding.proofs.laws.tables_of_shards_merge.Goals as goal

pub returns : goal.returns
returns c = tables-of-shards-merge
