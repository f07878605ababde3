use Rattle.sem_laws.proofs.SharedCells.{boxes-merge}
use Rattle.sem_laws.proofs.laws.boxes_merge.Goals as goal

pub returns : goal.returns
returns c = boxes-merge
