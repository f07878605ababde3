use Rattle.sem_sharding.proofs.Splits.{deduped-answers}
use Rattle.sem_sharding.proofs.laws.deduped_answers.Goals as goal

pub returns : goal.returns
returns c = deduped-answers
