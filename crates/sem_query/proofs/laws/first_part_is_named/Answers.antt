use Rattle.sem_query.proofs.Cases as Cases
use Rattle.sem_query.proofs.laws.first_part_is_named.Goals as goal

pub returns : goal.returns
returns c = Cases.first_part_is_named
