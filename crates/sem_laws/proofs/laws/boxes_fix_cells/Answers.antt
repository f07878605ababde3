use Rattle.sem_laws.proofs.BoxReadings.{boxes-fix-cells}
use Rattle.sem_laws.proofs.laws.boxes_fix_cells.Goals as goal

pub returns : goal.returns
returns c = boxes-fix-cells
