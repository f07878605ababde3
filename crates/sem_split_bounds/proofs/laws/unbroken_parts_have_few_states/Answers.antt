use Rattle.sem_split_bounds.proofs.Unbroken.{unbroken-parts-have-few-states}
use Rattle.sem_split_bounds.proofs.laws.unbroken_parts_have_few_states.Goals as goal

pub returns : goal.returns
returns c = unbroken-parts-have-few-states
