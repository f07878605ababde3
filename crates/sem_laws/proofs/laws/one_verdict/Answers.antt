use Rattle.sem_laws.proofs.Verdicts.{has-one-verdict}
use Rattle.sem_laws.proofs.laws.one_verdict.Goals as goal

pub returns : goal.returns
returns c = has-one-verdict
