use Rattle.sem_laws.proofs.ClosedCases.{loaded-cells-are-walked}
use Rattle.sem_laws.proofs.laws.loaded_cells_are_walked.Goals as goal

pub returns : goal.returns
returns c = loaded-cells-are-walked
