use Rattle.sem_sharding.proofs.Together.{one-shard-replies}
use Rattle.sem_sharding.proofs.laws.one_shard_replies.Goals as goal

pub returns : goal.returns
returns c = one-shard-replies
