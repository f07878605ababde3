use Rattle.sem_split_bounds.proofs.Verdicts.{compact-verdicts-are-exact}
use Rattle.sem_split_bounds.proofs.laws.compact_verdicts_are_exact.Goals as goal

pub returns : goal.returns
returns c = compact-verdicts-are-exact
