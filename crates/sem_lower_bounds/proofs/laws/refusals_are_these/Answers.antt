use Rattle.sem_lower_bounds.proofs.WorkedRefusals.{refusals-are-these}
use Rattle.sem_lower_bounds.proofs.laws.refusals_are_these.Goals as goal

pub returns : goal.returns
returns c = refusals-are-these
