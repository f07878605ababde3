use Rattle.sem_laws.proofs.Numbering.{cells-are-read}
use Rattle.sem_laws.proofs.laws.cells_are_read.Goals as goal

pub returns : goal.returns
returns c = cells-are-read
