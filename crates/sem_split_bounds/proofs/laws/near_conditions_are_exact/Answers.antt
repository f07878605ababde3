use Rattle.sem_split_bounds.proofs.NearNeed.{near-parts-need-states}
use Rattle.sem_split_bounds.proofs.NearFew.{near-conditions-are-exact}
use Rattle.sem_split_bounds.proofs.laws.near_conditions_are_exact.Goals as goal

pub returns : goal.returns
returns c = near-conditions-are-exact near-parts-need-states
