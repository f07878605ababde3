use Rattle.sem_forms.proofs.PartQueries.{parts_have_systems}
use Rattle.sem_forms.proofs.laws.parts_have_systems.Goals as goal

pub returns : goal.returns
returns c = parts_have_systems
