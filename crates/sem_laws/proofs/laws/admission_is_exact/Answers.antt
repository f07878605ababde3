use Rattle.sem_laws.proofs.Admitted.{admission-is-exact}
use Rattle.sem_laws.proofs.laws.admission_is_exact.Goals as goal

pub returns : goal.returns
returns c = admission-is-exact
