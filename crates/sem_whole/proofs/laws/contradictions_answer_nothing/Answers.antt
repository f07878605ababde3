use Rattle.sem_whole.proofs.Failing.{contradictions_answer_nothing}
use Rattle.sem_whole.proofs.laws.contradictions_answer_nothing.Goals as goal

pub returns : goal.returns
returns c = contradictions_answer_nothing
