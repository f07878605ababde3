use Rattle.sem_laws.proofs.RowMerge.{rows-merge}
use Rattle.sem_laws.proofs.laws.rows_merge.Goals as goal

pub returns : goal.returns
returns c = rows-merge
