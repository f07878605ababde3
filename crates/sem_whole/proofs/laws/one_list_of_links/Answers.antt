use Rattle.sem_whole.proofs.Suffice.{one_list_of_links}
use Rattle.sem_whole.proofs.laws.one_list_of_links.Goals as goal

pub returns : goal.returns
returns c = one_list_of_links
