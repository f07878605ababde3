use Rattle.sem_lower_bounds.proofs.OneState.{filters-need-few-states}
use Rattle.sem_lower_bounds.proofs.laws.filters_need_few_states.Goals as goal

pub returns : goal.returns
returns c = filters-need-few-states
