use Rattle.sem_forms.proofs.SplitServes.{parts_take}
use Rattle.sem_forms.proofs.laws.parts_take.Goals as goal

pub returns : goal.returns
returns c = parts_take
