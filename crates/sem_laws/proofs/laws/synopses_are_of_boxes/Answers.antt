use Rattle.sem_laws.proofs.PlanBoxes.{synopses-are-of-boxes}
use Rattle.sem_laws.proofs.laws.synopses_are_of_boxes.Goals as goal

pub returns : goal.returns
returns c = synopses-are-of-boxes
