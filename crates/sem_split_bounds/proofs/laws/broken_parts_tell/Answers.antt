use Rattle.sem_split_bounds.proofs.PartsTell.{broken-parts-tell}
use Rattle.sem_split_bounds.proofs.laws.broken_parts_tell.Goals as goal

pub returns : goal.returns
returns c = broken-parts-tell
