use Rattle.sem_whole.proofs.Existing.{finite_forms_exist}
use Rattle.sem_whole.proofs.laws.finite_forms_exist.Goals as goal

pub returns : goal.returns
returns c = finite_forms_exist
