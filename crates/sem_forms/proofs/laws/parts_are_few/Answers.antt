use Rattle.sem_forms.proofs.PartsVerdicts.{parts_are_few}
use Rattle.sem_forms.proofs.laws.parts_are_few.Goals as goal

pub returns : goal.returns
returns c = parts_are_few
