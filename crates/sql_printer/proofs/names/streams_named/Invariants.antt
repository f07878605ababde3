use Rattle.std.proofs.Common.{◌≡◌, map, take}
use Rattle.sql_parser.specs.Resolution as names
use Rattle.sql_printer.proofs.names.streams_named.Given as goal

abbrev pub invariant-loop-number : goal.invariant-loop-number
invariant-loop-number l = l.streams.items ≡ map (names.stream_named l.catalog) (take l.number-index l.from)
