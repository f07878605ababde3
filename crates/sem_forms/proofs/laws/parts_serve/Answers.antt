use Rattle.sem_forms.proofs.SplitServes.{parts_serve}
use Rattle.sem_forms.proofs.laws.parts_serve.Goals as goal

pub returns : goal.returns
returns c = parts_serve
