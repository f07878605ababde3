use Rattle.sem_split_bounds.proofs.Moves.{near-breaks-move}
use Rattle.sem_split_bounds.proofs.laws.near_breaks_move.Goals as goal

pub returns : goal.returns
returns c = near-breaks-move
