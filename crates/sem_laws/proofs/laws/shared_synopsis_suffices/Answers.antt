use Rattle.sem_laws.proofs.SharedSuffices.{shared-synopsis-suffices}
use Rattle.sem_laws.proofs.laws.shared_synopsis_suffices.Goals as goal

pub returns : goal.returns
returns c = shared-synopsis-suffices
