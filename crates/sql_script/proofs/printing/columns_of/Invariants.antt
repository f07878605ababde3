use Rattle.std.proofs.Common.{◌≡◌, take, length}
use Rattle.sql_catalog.specs.Streams.{shape_at}
use Rattle.sql_script.proofs.printing.columns_of.Given as goal

abbrev pub invariant-loop-column : goal.invariant-loop-column
invariant-loop-column l = record {
  are : l.columns.items ≡ take l.column (shape_at l.catalog l.number).columns;
  count : length l.columns.items ≡ l.column;
}
