use Rattle.sem_lower_bounds.proofs.Skipping.{domain-conditions-are-exact}
use Rattle.sem_lower_bounds.proofs.beyond.domain_conditions_are_exact.Goals as goal

pub returns : goal.returns
returns c = domain-conditions-are-exact
