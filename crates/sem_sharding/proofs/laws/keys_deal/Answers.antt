use Rattle.sem_sharding.proofs.ByKeys.{keys-deal}
use Rattle.sem_sharding.proofs.laws.keys_deal.Goals as goal

pub returns : goal.returns
returns c = keys-deal
