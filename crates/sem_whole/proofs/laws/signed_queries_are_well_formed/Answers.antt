use Rattle.sem_whole.proofs.Signed.{signed_well_formed}
use Rattle.sem_whole.proofs.laws.signed_queries_are_well_formed.Goals as goal

pub returns : goal.returns
returns c = signed_well_formed
