use Rattle.sem_sharding.proofs.Narrowed.{narrowed-rows-keep}
use Rattle.sem_sharding.proofs.laws.narrowed_rows_keep.Goals as goal

pub returns : goal.returns
returns c = narrowed-rows-keep
