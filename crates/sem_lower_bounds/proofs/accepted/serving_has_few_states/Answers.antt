use Rattle.sem_lower_bounds.proofs.FewStates.{serving-has-few-states}
use Rattle.sem_lower_bounds.proofs.accepted.serving_has_few_states.Goals as goal

pub returns : goal.returns
returns c = serving-has-few-states
