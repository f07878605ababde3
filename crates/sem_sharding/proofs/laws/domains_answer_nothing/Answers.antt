use Rattle.sem_sharding.proofs.Narrowed.{domains-answer-nothing}
use Rattle.sem_sharding.proofs.laws.domains_answer_nothing.Goals as goal

pub returns : goal.returns
returns c = domains-answer-nothing
