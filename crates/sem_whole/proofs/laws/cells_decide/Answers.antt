use Rattle.sem_whole.proofs.Cells.{cells_decide}
use Rattle.sem_whole.proofs.laws.cells_decide.Goals as goal

pub returns : goal.returns
returns c = cells_decide
