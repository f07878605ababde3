use Rattle.std.proofs.Common.{◌≡◌, map, take}
use Rattle.sql_parser.specs.Resolution as names
use Rattle.sql_parser.proofs.resolution.attrs_for.Given as goal

abbrev pub invariant-loop-column : goal.invariant-loop-column
invariant-loop-column l = l.attrs.items ≡ map (names.attr_for l.catalog l.from) (take l.column-index l.columns)
