use Rattle.sem_split_bounds.proofs.Exact.{split-conditions-are-exact}
use Rattle.sem_split_bounds.proofs.laws.split_conditions_are_exact.Goals as goal

pub returns : goal.returns
returns c = split-conditions-are-exact
