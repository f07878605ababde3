use Rattle.std.proofs.Common.{◌≡◌, map, take}
use Rattle.sql_parser.specs.Resolution as names
use Rattle.sql_printer.proofs.names.columns_named.Given as goal

abbrev pub invariant-loop-attr : goal.invariant-loop-attr
invariant-loop-attr l = l.columns.items ≡ map (names.column_named l.catalog l.from) (take l.attr-index l.attrs)
