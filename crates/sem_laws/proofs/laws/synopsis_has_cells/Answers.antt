use Rattle.sem_laws.proofs.Numbering.{synopsis-has-cells}
use Rattle.sem_laws.proofs.laws.synopsis_has_cells.Goals as goal

pub returns : goal.returns
returns c = synopsis-has-cells
