use Rattle.sem_laws.proofs.DomainInstance.{domains-are-planned}
use Rattle.sem_laws.proofs.laws.domains_are_planned.Goals as goal

pub returns : goal.returns
returns c = domains-are-planned
