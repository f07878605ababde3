use Rattle.sem_laws.proofs.MovedBoxes.{shared-plans-exist}
use Rattle.sem_laws.proofs.laws.shared_plans_exist.Goals as goal

pub returns : goal.returns
returns c = shared-plans-exist
