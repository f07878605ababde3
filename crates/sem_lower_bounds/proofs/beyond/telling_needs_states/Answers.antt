use Rattle.sem_lower_bounds.proofs.Refused.{telling-needs-states}
use Rattle.sem_lower_bounds.proofs.beyond.telling_needs_states.Goals as goal

pub returns : goal.returns
returns c = telling-needs-states
