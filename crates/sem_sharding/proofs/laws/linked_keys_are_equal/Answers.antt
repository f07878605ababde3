use Rattle.sem_sharding.proofs.ByKeys.{linked-keys}
use Rattle.sem_sharding.proofs.laws.linked_keys_are_equal.Goals as goal

pub returns : goal.returns
returns c = linked-keys
