use Rattle.sem_query.proofs.Meets as Meets
use Rattle.sem_query.proofs.laws.links_suffice.Goals as goal

pub returns : goal.returns
returns c = Meets.links_suffice
