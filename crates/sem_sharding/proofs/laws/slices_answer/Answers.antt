use Rattle.sem_sharding.proofs.Slices.{slices-answer}
use Rattle.sem_sharding.proofs.laws.slices_answer.Goals as goal

pub returns : goal.returns
returns c = slices-answer
