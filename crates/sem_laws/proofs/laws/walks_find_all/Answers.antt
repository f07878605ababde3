use Rattle.sem_laws.proofs.ByPlace.{walks-find-all}
use Rattle.sem_laws.proofs.laws.walks_find_all.Goals as goal

pub returns : goal.returns
returns c = walks-find-all
