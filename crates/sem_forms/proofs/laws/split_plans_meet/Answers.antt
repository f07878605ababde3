use Rattle.sem_forms.proofs.PartBreaks.{split_plans_meet}
use Rattle.sem_forms.proofs.laws.split_plans_meet.Goals as goal

pub returns : goal.returns
returns c = split_plans_meet
