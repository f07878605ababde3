use Rattle.sem_lower_bounds.proofs.Exact.{conditions-are-exact}
use Rattle.sem_lower_bounds.proofs.accepted.conditions_are_exact.Goals as goal

pub returns : goal.returns
returns c = conditions-are-exact
