use Rattle.sem_whole.proofs.Signed.{signs_are_said}
use Rattle.sem_whole.proofs.laws.signs_are_said.Goals as goal

pub returns : goal.returns
returns c = signs_are_said
