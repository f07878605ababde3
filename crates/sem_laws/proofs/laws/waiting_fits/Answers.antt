use Rattle.sem_laws.proofs.AnyCells.{waiting-fits}
use Rattle.sem_laws.proofs.laws.waiting_fits.Goals as goal

pub returns : goal.returns
returns c = waiting-fits
