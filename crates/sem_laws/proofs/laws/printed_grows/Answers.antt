use Rattle.sem_laws.proofs.Merge.{printed-grows}
use Rattle.sem_laws.proofs.laws.printed_grows.Goals as goal

pub returns : goal.returns
returns c = printed-grows
