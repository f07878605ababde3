use Rattle.sem_sharding.proofs.Splits.{deduped-histories}
use Rattle.sem_sharding.proofs.laws.deduped_histories.Goals as goal

pub returns : goal.returns
returns c = deduped-histories
