use Rattle.sem_sharding.proofs.Needed.{told-keys-are-needed}
use Rattle.sem_sharding.proofs.laws.told_keys_are_needed.Goals as goal

pub returns : goal.returns
returns c = told-keys-are-needed
