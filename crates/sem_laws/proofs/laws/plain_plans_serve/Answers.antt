use Rattle.sem_laws.proofs.PlainServes.{plain_plans_serve}
use Rattle.sem_laws.proofs.laws.plain_plans_serve.Goals as goal

pub returns : goal.returns
returns c = plain_plans_serve
