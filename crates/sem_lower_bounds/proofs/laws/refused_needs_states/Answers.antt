use Rattle.sem_lower_bounds.proofs.Refused.{refused-needs-states}
use Rattle.sem_lower_bounds.proofs.laws.refused_needs_states.Goals as goal

pub returns : goal.returns
returns c = refused-needs-states
