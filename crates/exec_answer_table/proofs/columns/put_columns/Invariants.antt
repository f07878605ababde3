use Rattle.std.proofs.Common.{◌≡◌, map, take}
use Rattle.sem_query.specs.Meaning.{by_column}
use Rattle.exec_answer_table.proofs.columns.put_columns.Given as goal

abbrev pub invariant-loop-column : goal.invariant-loop-column
invariant-loop-column l = l.tuple.items ≡ map (by_column l.row) (take l.column-index l.columns)
