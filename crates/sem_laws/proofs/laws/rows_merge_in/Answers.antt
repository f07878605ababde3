use Rattle.sem_laws.proofs.BoxReadings.{rows-merge-in}
use Rattle.sem_laws.proofs.laws.rows_merge_in.Goals as goal

pub returns : goal.returns
returns c = rows-merge-in
