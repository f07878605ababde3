use Rattle.sem_lower_bounds.proofs.CatalogExact.{catalog-conditions-are-exact}
use Rattle.sem_lower_bounds.proofs.accepted.catalog_conditions_are_exact.Goals as goal

pub returns : goal.returns
returns c = catalog-conditions-are-exact
