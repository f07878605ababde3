use Rattle.sem_laws.proofs.Walking.{plans-are-walkable}
use Rattle.sem_laws.proofs.laws.plans_are_walkable.Goals as goal

pub returns : goal.returns
returns c = plans-are-walkable
