use Rattle.sem_laws.proofs.Walking.{shares-are-greatest}
use Rattle.sem_laws.proofs.laws.shares_are_greatest.Goals as goal

pub returns : goal.returns
returns c = shares-are-greatest
