use Rattle.sem_lower_bounds.proofs.Fitted.{catalog-needs-states}
use Rattle.sem_lower_bounds.proofs.laws.catalog_needs_states.Goals as goal

pub returns : goal.returns
returns c = catalog-needs-states
