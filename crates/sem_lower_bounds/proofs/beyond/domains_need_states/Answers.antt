use Rattle.sem_lower_bounds.proofs.Skipping.{domains-need-states}
use Rattle.sem_lower_bounds.proofs.beyond.domains_need_states.Goals as goal

pub returns : goal.returns
returns c = domains-need-states
