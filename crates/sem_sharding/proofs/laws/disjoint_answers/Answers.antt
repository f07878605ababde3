use Rattle.sem_sharding.proofs.Splits.{disjoint-answers}
use Rattle.sem_sharding.proofs.laws.disjoint_answers.Goals as goal

pub returns : goal.returns
returns c = disjoint-answers
