use Rattle.sem_whole.proofs.Signed.{signed_holds}
use Rattle.sem_whole.proofs.laws.signed_queries_hold.Goals as goal

pub returns : goal.returns
returns c = signed_holds
