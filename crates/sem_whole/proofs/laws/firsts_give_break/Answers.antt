use Rattle.sem_whole.proofs.Failing.{firsts_give_break}
use Rattle.sem_whole.proofs.laws.firsts_give_break.Goals as goal

pub returns : goal.returns
returns c = firsts_give_break
