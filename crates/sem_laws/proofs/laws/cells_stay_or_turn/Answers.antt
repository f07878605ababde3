use Rattle.sem_laws.proofs.Saturated.{cells-stay-or-turn}
use Rattle.sem_laws.proofs.laws.cells_stay_or_turn.Goals as goal

pub returns : goal.returns
returns c = cells-stay-or-turn
