use Rattle.sem_forms.proofs.Counted.{announced_answers_hold}
use Rattle.sem_forms.proofs.laws.announced_answers_hold.Goals as goal

pub returns : goal.returns
returns c = announced_answers_hold
