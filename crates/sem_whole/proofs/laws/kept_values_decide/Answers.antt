use Rattle.sem_whole.proofs.CutLaw.{kept_values_decide}
use Rattle.sem_whole.proofs.laws.kept_values_decide.Goals as goal

pub returns : goal.returns
returns c = kept_values_decide
