use Rattle.sem_laws.proofs.Examples.{counts-multiply}
use Rattle.sem_laws.proofs.laws.counts_multiply.Goals as goal

pub returns : goal.returns
returns c = counts-multiply
