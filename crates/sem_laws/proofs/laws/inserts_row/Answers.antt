use Rattle.sem_laws.proofs.Inserting.{inserts-row}
use Rattle.sem_laws.proofs.laws.inserts_row.Goals as goal

pub returns : goal.returns
returns c = inserts-row
