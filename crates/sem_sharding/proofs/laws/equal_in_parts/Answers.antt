use Rattle.sem_sharding.proofs.ByKeys.{equal-in-parts}
use Rattle.sem_sharding.proofs.laws.equal_in_parts.Goals as goal

pub returns : goal.returns
returns c = equal-in-parts
