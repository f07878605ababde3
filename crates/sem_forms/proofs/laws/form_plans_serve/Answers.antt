use Rattle.sem_forms.proofs.Forms.{form_plans_serve}
use Rattle.sem_forms.proofs.laws.form_plans_serve.Goals as goal

pub returns : goal.returns
returns c = form_plans_serve
