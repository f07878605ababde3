use Rattle.sem_laws.proofs.ServedLaw.{serving_plans_suffice}
use Rattle.sem_laws.proofs.laws.serving_plans_suffice.Goals as goal

pub returns : goal.returns
returns c = serving_plans_suffice
