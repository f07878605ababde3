use Rattle.sem_forms.proofs.SplitOne.{one_split_plan}
use Rattle.sem_forms.proofs.laws.has_one_split_plan.Goals as goal

pub returns : goal.returns
returns c = one_split_plan
