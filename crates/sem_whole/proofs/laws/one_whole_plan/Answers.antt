use Rattle.sem_whole.proofs.Planned.{one_whole_plan}
use Rattle.sem_whole.proofs.laws.one_whole_plan.Goals as goal

pub returns : goal.returns
returns c = one_whole_plan
