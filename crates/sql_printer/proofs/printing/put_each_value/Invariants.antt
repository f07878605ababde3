use Rattle.std.proofs.Common.{take, codes}
use Rattle.std.specs.Fmt.{signed_decimal}
use Rattle.io_streams.specs.Sink.{Wrote}
use Rattle.sql_printer.specs.PrintedParts.{each_behind}
use Rattle.sql_printer.proofs.printing.put_each_value.Given as goal

abbrev pub invariant-loop-value : goal.invariant-loop-value
invariant-loop-value g l = Wrote (g.O.Sink.seen l.fn.out) (g.O.Sink.seen l.out) (each_behind (codes " ") signed_decimal (take l.value-index l.values))
