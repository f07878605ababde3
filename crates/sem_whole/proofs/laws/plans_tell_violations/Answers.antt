use Rattle.sem_whole.proofs.Failing.{plans_tell_violations}
use Rattle.sem_whole.proofs.laws.plans_tell_violations.Goals as goal

pub returns : goal.returns
returns c = plans_tell_violations
