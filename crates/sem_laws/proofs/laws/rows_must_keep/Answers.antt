use Rattle.sem_laws.proofs.DomainCases.{rows-must-keep}
use Rattle.sem_laws.proofs.laws.rows_must_keep.Goals as goal

pub returns : goal.returns
returns c = rows-must-keep
