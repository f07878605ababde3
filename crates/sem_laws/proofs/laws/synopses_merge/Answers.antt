use Rattle.sem_laws.proofs.Merge.{synopses-merge}
use Rattle.sem_laws.proofs.laws.synopses_merge.Goals as goal

pub returns : goal.returns
returns c = synopses-merge
