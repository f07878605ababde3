use Rattle.sem_laws.proofs.SharedSuffices.{shared-cells-agree}
use Rattle.sem_laws.proofs.laws.shared_cells_agree.Goals as goal

pub returns : goal.returns
returns c = shared-cells-agree
