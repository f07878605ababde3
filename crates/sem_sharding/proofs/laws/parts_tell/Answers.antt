use Rattle.sem_sharding.proofs.ByKeys.{parts-tell}
use Rattle.sem_sharding.proofs.laws.parts_tell.Goals as goal

pub returns : goal.returns
returns c = parts-tell
