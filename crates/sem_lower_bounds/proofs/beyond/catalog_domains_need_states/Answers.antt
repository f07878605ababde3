use Rattle.sem_lower_bounds.proofs.Skipping.{catalog-domains-need-states}
use Rattle.sem_lower_bounds.proofs.beyond.catalog_domains_need_states.Goals as goal

pub returns : goal.returns
returns c = catalog-domains-need-states
