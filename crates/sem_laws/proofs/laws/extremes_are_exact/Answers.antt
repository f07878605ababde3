use Rattle.sem_laws.proofs.ExactExtremes.{extremes-are-exact}
use Rattle.sem_laws.proofs.laws.extremes_are_exact.Goals as goal

pub returns : goal.returns
returns c = extremes-are-exact
