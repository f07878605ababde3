use Rattle.sem_split_bounds.proofs.Moves.{broken-parts-move}
use Rattle.sem_split_bounds.proofs.laws.broken_parts_move.Goals as goal

pub returns : goal.returns
returns c = broken-parts-move
