use Rattle.sem_laws.proofs.Fitting.{cells-fit}
use Rattle.sem_laws.proofs.laws.cells_fit.Goals as goal

pub returns : goal.returns
returns c = cells-fit
