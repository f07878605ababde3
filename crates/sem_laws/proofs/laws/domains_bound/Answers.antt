use Rattle.sem_laws.proofs.DomainCases.{domains-bound}
use Rattle.sem_laws.proofs.laws.domains_bound.Goals as goal

pub returns : goal.returns
returns c = domains-bound
