use Rattle.sem_sharding.proofs.Needed.{equal-keys-are-needed}
use Rattle.sem_sharding.proofs.laws.equal_keys_are_needed.Goals as goal

pub returns : goal.returns
returns c = equal-keys-are-needed
