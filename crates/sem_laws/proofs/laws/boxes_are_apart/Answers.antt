use Rattle.sem_laws.proofs.Numbering.{boxes-are-apart}
use Rattle.sem_laws.proofs.laws.boxes_are_apart.Goals as goal

pub returns : goal.returns
returns c = boxes-are-apart
