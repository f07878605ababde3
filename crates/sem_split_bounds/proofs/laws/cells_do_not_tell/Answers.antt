use Rattle.sem_split_bounds.proofs.Cells.{cells-do-not-tell}
use Rattle.sem_split_bounds.proofs.laws.cells_do_not_tell.Goals as goal

pub returns : goal.returns
returns c = cells-do-not-tell
