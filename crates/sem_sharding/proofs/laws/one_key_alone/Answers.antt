use Rattle.sem_sharding.proofs.ByKeys.{one-alone}
use Rattle.sem_sharding.proofs.laws.one_key_alone.Goals as goal

pub returns : goal.returns
returns c = one-alone
