use Rattle.sem_lower_bounds.proofs.Exact.{none-lacks-plan}
use Rattle.sem_lower_bounds.proofs.accepted.none_lacks_plan.Goals as goal

pub returns : goal.returns
returns c = none-lacks-plan
