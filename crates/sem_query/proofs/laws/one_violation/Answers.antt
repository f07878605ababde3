use Rattle.sem_query.proofs.Violation as Violation
use Rattle.sem_query.proofs.laws.one_violation.Goals as goal

pub returns : goal.returns
returns c = Violation.one_violation
