use Rattle.sem_laws.proofs.Examples.{one-table-for-all-parts}
use Rattle.sem_laws.proofs.laws.one_table_for_all_parts.Goals as goal

pub returns : goal.returns
returns c = one-table-for-all-parts
