use Rattle.sem_split_bounds.proofs.Unbroken.{unbroken-parts-need-few-states}
use Rattle.sem_split_bounds.proofs.laws.unbroken_parts_need_few_states.Goals as goal

pub returns : goal.returns
returns c = unbroken-parts-need-few-states
