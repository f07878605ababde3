use Rattle.sem_whole.proofs.Signed.{solutions_satisfy}
use Rattle.sem_whole.proofs.laws.solutions_satisfy.Goals as goal

pub returns : goal.returns
returns c = solutions_satisfy
