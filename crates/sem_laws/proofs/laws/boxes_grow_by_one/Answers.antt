use Rattle.sem_laws.proofs.GrowingBoxes.{boxes-grow-by-one}
use Rattle.sem_laws.proofs.laws.boxes_grow_by_one.Goals as goal

pub returns : goal.returns
returns c = boxes-grow-by-one
