use Rattle.sem_laws.proofs.ClosedTables.{cells-stay-saturated}
use Rattle.sem_laws.proofs.laws.cells_stay_saturated.Goals as goal

pub returns : goal.returns
returns c = cells-stay-saturated
