use Rattle.sem_lower_bounds.proofs.Histories.{whole-histories-are-right}
use Rattle.sem_lower_bounds.proofs.laws.whole_histories_are_right.Goals as goal

pub returns : goal.returns
returns c = whole-histories-are-right
