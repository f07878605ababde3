use Rattle.sem_sharding.proofs.Narrowed.{admitted-rows-suffice}
use Rattle.sem_sharding.proofs.laws.admitted_rows_suffice.Goals as goal

pub returns : goal.returns
returns c = admitted-rows-suffice
