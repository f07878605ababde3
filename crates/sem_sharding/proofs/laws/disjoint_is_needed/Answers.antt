use Rattle.sem_sharding.proofs.Needed.{disjoint-is-needed}
use Rattle.sem_sharding.proofs.laws.disjoint_is_needed.Goals as goal

pub returns : goal.returns
returns c = disjoint-is-needed
