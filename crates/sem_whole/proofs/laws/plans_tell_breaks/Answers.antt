use Rattle.sem_whole.proofs.Planned.{plans_tell_breaks}
use Rattle.sem_whole.proofs.laws.plans_tell_breaks.Goals as goal

pub returns : goal.returns
returns c = plans_tell_breaks
