use Rattle.sem_sharding.proofs.Splits.{split-histories}
use Rattle.sem_sharding.proofs.laws.split_histories.Goals as goal

pub returns : goal.returns
returns c = split-histories
