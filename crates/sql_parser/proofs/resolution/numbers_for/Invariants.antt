use Rattle.std.proofs.Common.{◌≡◌, map, take}
use Rattle.sql_parser.specs.Resolution as names
use Rattle.sql_parser.proofs.resolution.numbers_for.Given as goal

abbrev pub invariant-loop-name : goal.invariant-loop-name
invariant-loop-name l = l.numbers.items ≡ map (names.number_for l.catalog) (take l.name-index l.from)
