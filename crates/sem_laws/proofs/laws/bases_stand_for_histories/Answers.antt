use Rattle.sem_laws.proofs.Bases.{bases-stand-for-histories}
use Rattle.sem_laws.proofs.laws.bases_stand_for_histories.Goals as goal

pub returns : goal.returns
returns c = bases-stand-for-histories
