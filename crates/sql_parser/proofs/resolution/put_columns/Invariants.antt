use Rattle.std.proofs.Common.{◌≡◌, ◌++◌, take}
use Rattle.sql_parser.proofs.resolution.put_columns.Given as goal

abbrev pub invariant-loop-column : goal.invariant-loop-column
invariant-loop-column l = l.columns.items ≡ l.fn.columns.items ++ take l.column-index l.more
