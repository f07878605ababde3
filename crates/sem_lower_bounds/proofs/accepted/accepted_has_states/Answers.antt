use Rattle.sem_lower_bounds.proofs.FewStates.{accepted-has-states}
use Rattle.sem_lower_bounds.proofs.accepted.accepted_has_states.Goals as goal

pub returns : goal.returns
returns c = accepted-has-states
