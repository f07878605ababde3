use Rattle.sem_lower_bounds.proofs.FormStates.{forms-have-few-states}
use Rattle.sem_lower_bounds.proofs.accepted.forms_have_few_states.Goals as goal

pub returns : goal.returns
returns c = forms-have-few-states
