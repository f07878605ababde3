use Rattle.std.proofs.Common.{◌≡◌, take}
use Rattle.std.specs.List.{All}
use Rattle.sql_catalog.specs.declared.column.ColumnDef.{ColumnDef}
use Rattle.sql_catalog.specs.Streams.{IsName}
use Rattle.sql_catalog.proofs.columns.copied.Given as goal

abbrev pub invariant-loop-column : goal.invariant-loop-column
invariant-loop-column l = record {
  same : l.copies.items ≡ take l.column-index l.columns;
  names : All (λ (c : ColumnDef). IsName c.name) l.copies.items;
}
