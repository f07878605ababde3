use Rattle.sem_sharding.proofs.ByKeys.{tuples-tell}
use Rattle.sem_sharding.proofs.laws.tuples_tell_shards.Goals as goal

pub returns : goal.returns
returns c = tuples-tell
