use Rattle.sem_lower_bounds.proofs.Exact.{few-states-decide}
use Rattle.sem_lower_bounds.proofs.accepted.few_states_decide.Goals as goal

pub returns : goal.returns
returns c = few-states-decide
