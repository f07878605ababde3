use Rattle.sem_lower_bounds.proofs.FormStates.{forms-need-few-states}
use Rattle.sem_lower_bounds.proofs.accepted.forms_need_few_states.Goals as goal

pub returns : goal.returns
returns c = forms-need-few-states
