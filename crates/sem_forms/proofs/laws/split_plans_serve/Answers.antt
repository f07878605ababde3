use Rattle.sem_forms.proofs.SplitServes.{split_plans_serve}
use Rattle.sem_forms.proofs.laws.split_plans_serve.Goals as goal

pub returns : goal.returns
returns c = split_plans_serve
