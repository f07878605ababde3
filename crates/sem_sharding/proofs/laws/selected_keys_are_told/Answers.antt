use Rattle.sem_sharding.proofs.ByKeys.{selected-told}
use Rattle.sem_sharding.proofs.laws.selected_keys_are_told.Goals as goal

pub returns : goal.returns
returns c = selected-told
