use Rattle.sem_lower_bounds.proofs.Premises.{premises-are-needed}
use Rattle.sem_lower_bounds.proofs.laws.premises_are_needed.Goals as goal

pub returns : goal.returns
returns c = premises-are-needed
