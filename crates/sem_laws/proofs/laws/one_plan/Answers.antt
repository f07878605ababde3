use Rattle.sem_laws.proofs.OnePlan.{one-plan}
use Rattle.sem_laws.proofs.laws.one_plan.Goals as goal

pub returns : goal.returns
returns c = one-plan
