use Rattle.sem_sharding.proofs.Splits.{split-answers}
use Rattle.sem_sharding.proofs.laws.split_answers.Goals as goal

pub returns : goal.returns
returns c = split-answers
