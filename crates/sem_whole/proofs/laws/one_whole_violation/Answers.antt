use Rattle.sem_whole.proofs.Failing.{one_whole_violation}
use Rattle.sem_whole.proofs.laws.one_whole_violation.Goals as goal

pub returns : goal.returns
returns c = one_whole_violation
