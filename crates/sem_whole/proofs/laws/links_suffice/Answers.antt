use Rattle.sem_whole.proofs.Suffice.{links_suffice}
use Rattle.sem_whole.proofs.laws.links_suffice.Goals as goal

pub returns : goal.returns
returns c = links_suffice
