use Rattle.std.proofs.Common.{take, codes}
use Rattle.io_streams.specs.Sink.{Wrote}
use Rattle.sql_printer.specs.PrintedParts.{each_behind, name_text}
use Rattle.sql_printer.proofs.printing.put_more_names.Given as goal

abbrev pub invariant-loop-name : goal.invariant-loop-name
invariant-loop-name g l = Wrote (g.O.Sink.seen l.fn.out) (g.O.Sink.seen l.out) (each_behind (codes ", ") name_text (take l.name-index l.names))
