use Rattle.sem_whole.proofs.Cases.{under_is_whole}
use Rattle.sem_whole.proofs.laws.under_is_whole.Goals as goal

pub returns : goal.returns
returns c = under_is_whole
