use Rattle.sem_whole.proofs.Failing.{contradictions_have_no_form}
use Rattle.sem_whole.proofs.laws.contradictions_have_no_form.Goals as goal

pub returns : goal.returns
returns c = contradictions_have_no_form
