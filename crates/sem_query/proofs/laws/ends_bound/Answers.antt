use Rattle.sem_query.proofs.Bounded as Bounded
use Rattle.sem_query.proofs.laws.ends_bound.Goals as goal

pub returns : goal.returns
returns c = Bounded.ends_bound
