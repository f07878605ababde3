use Rattle.sem_forms.proofs.Forms.{has_one_form_verdict}
use Rattle.sem_forms.proofs.laws.has_one_form_verdict.Goals as goal

pub returns : goal.returns
returns c = has_one_form_verdict
