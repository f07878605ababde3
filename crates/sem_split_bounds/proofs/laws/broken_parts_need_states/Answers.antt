use Rattle.sem_split_bounds.proofs.PartsNeed.{broken-parts-need-states}
use Rattle.sem_split_bounds.proofs.laws.broken_parts_need_states.Goals as goal

pub returns : goal.returns
returns c = broken-parts-need-states
