use Rattle.sem_laws.proofs.ClosedTables.{tables-stay-closed}
use Rattle.sem_laws.proofs.laws.tables_stay_closed.Goals as goal

pub returns : goal.returns
returns c = tables-stay-closed
