use Rattle.sem_laws.proofs.PlanBoxes.{plans-have-boxes}
use Rattle.sem_laws.proofs.laws.plans_have_boxes.Goals as goal

pub returns : goal.returns
returns c = plans-have-boxes
