use Rattle.sem_query.proofs.Unique as Unique
use Rattle.sem_query.proofs.laws.one_list_of_parts.Goals as goal

pub returns : goal.returns
returns c = Unique.one_list_of_parts
