use Rattle.sem_whole.proofs.Planned.{plans_are_forms}
use Rattle.sem_whole.proofs.laws.plans_are_forms.Goals as goal

pub returns : goal.returns
returns c = plans_are_forms
