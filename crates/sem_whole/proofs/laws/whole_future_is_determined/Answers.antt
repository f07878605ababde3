use Rattle.sem_whole.proofs.Cells.{whole_future_is_determined}
use Rattle.sem_whole.proofs.laws.whole_future_is_determined.Goals as goal

pub returns : goal.returns
returns c = whole_future_is_determined
