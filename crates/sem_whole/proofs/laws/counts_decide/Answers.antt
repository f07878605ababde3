use Rattle.sem_whole.proofs.Cells.{counts_decide}
use Rattle.sem_whole.proofs.laws.counts_decide.Goals as goal

pub returns : goal.returns
returns c = counts_decide
