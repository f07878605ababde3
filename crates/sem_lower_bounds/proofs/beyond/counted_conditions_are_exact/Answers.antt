use Rattle.sem_lower_bounds.proofs.Exact.{counted-conditions-are-exact}
use Rattle.sem_lower_bounds.proofs.beyond.counted_conditions_are_exact.Goals as goal

pub returns : goal.returns
returns c = counted-conditions-are-exact
