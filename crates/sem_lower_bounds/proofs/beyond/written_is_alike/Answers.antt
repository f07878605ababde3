use Rattle.sem_lower_bounds.proofs.Skipping.{written-is-alike}
use Rattle.sem_lower_bounds.proofs.beyond.written_is_alike.Goals as goal

pub returns : goal.returns
returns c = written-is-alike
