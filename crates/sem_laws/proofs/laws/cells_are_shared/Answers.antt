use Rattle.sem_laws.proofs.SharedCases.{cells-are-shared}
use Rattle.sem_laws.proofs.laws.cells_are_shared.Goals as goal

pub returns : goal.returns
returns c = cells-are-shared
