use Rattle.sem_query.proofs.OneGroup as OneGroup
use Rattle.sem_query.proofs.laws.groups_are_components.Goals as goal

pub returns : goal.returns
returns c = OneGroup.groups_are_components
