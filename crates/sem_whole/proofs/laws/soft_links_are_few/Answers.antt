use Rattle.sem_whole.proofs.Formed.{soft_links_are_few}
use Rattle.sem_whole.proofs.laws.soft_links_are_few.Goals as goal

pub returns : goal.returns
returns c = soft_links_are_few
