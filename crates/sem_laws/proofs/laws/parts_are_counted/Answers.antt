use Rattle.sem_laws.proofs.CountedParts.{parts_are_counted}
use Rattle.sem_laws.proofs.laws.parts_are_counted.Goals as goal

pub returns : goal.returns
returns c = parts_are_counted
