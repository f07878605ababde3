use Rattle.sem_lower_bounds.proofs.Skipping.{written-decides}
use Rattle.sem_lower_bounds.proofs.beyond.written_decides.Goals as goal

pub returns : goal.returns
returns c = written-decides
