use Rattle.sem_whole.proofs.Boxed.{keys_lie_in_boxes}
use Rattle.sem_whole.proofs.laws.keys_lie_in_boxes.Goals as goal

pub returns : goal.returns
returns c = keys_lie_in_boxes
