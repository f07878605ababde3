use Rattle.sem_sharding.proofs.ByKeys.{keys-split}
use Rattle.sem_sharding.proofs.laws.keys_split.Goals as goal

pub returns : goal.returns
returns c = keys-split
