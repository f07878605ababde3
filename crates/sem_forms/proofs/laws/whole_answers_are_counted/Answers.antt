use Rattle.sem_forms.proofs.WholeServes.{whole_answers_are_counted}
use Rattle.sem_forms.proofs.laws.whole_answers_are_counted.Goals as goal

pub returns : goal.returns
returns c = whole_answers_are_counted
