use Rattle.sem_sharding.proofs.Splits.{disjoint-histories}
use Rattle.sem_sharding.proofs.laws.disjoint_histories.Goals as goal

pub returns : goal.returns
returns c = disjoint-histories
