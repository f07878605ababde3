use Rattle.sem_whole.proofs.Few.{local_conditions_are_few}
use Rattle.sem_whole.proofs.laws.local_conditions_are_few.Goals as goal

pub returns : goal.returns
returns c = local_conditions_are_few
