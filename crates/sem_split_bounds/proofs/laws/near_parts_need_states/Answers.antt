use Rattle.sem_split_bounds.proofs.NearNeed.{near-parts-need-states}
use Rattle.sem_split_bounds.proofs.laws.near_parts_need_states.Goals as goal

pub returns : goal.returns
returns c = near-parts-need-states
