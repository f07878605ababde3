use Rattle.sem_split_bounds.proofs.PartsTell.{counted-parts-tell}
use Rattle.sem_split_bounds.proofs.laws.counted_parts_tell.Goals as goal

pub returns : goal.returns
returns c = counted-parts-tell
