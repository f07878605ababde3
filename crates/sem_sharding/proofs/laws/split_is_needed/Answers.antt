use Rattle.sem_sharding.proofs.Needed.{split-is-needed}
use Rattle.sem_sharding.proofs.laws.split_is_needed.Goals as goal

pub returns : goal.returns
returns c = split-is-needed
