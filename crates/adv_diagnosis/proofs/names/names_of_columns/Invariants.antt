use Rattle.std.proofs.Common.{◌≡◌, ◌≤◌, length, take}
use Rattle.sql_catalog.specs.Streams.{column_names}
use Rattle.adv_diagnosis.proofs.names.names_of_columns.Given as goal

abbrev pub invariant-loop-column : goal.invariant-loop-column
invariant-loop-column l = record {
  so_far : l.names.items ≡ column_names (take l.column-index l.columns);
  room : length l.names.items ≤ l.column-index;
}
