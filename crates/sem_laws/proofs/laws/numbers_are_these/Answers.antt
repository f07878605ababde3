use Rattle.sem_laws.proofs.Examples.{numbers-are-these}
use Rattle.sem_laws.proofs.laws.numbers_are_these.Goals as goal

pub returns : goal.returns
returns c = numbers-are-these
