use Rattle.sem_query.proofs.Bounded as Bounded
use Rattle.sem_query.proofs.laws.sides_are_bounded_together.Goals as goal

pub returns : goal.returns
returns c = Bounded.sides_are_bounded_together
