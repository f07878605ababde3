use Rattle.sem_split_bounds.proofs.NearFew.{unbroken-near-parts-have-few-states}
use Rattle.sem_split_bounds.proofs.laws.unbroken_near_parts_have_few_states.Goals as goal

pub returns : goal.returns
returns c = unbroken-near-parts-have-few-states
