use Rattle.sem_forms.proofs.PartQueries.{part_queries_are_well_formed}
use Rattle.sem_forms.proofs.laws.part_queries_are_well_formed.Goals as goal

pub returns : goal.returns
returns c = part_queries_are_well_formed
