use Rattle.sem_laws.proofs.OneSharedPlan.{one-shared-plan}
use Rattle.sem_laws.proofs.laws.one_shared_plan.Goals as goal

pub returns : goal.returns
returns c = one-shared-plan
