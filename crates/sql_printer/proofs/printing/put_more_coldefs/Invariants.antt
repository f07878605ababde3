use Rattle.std.proofs.Common.{take, codes}
use Rattle.io_streams.specs.Sink.{Wrote}
use Rattle.sql_printer.specs.PrintedParts.{each_behind, coldef_text}
use Rattle.sql_printer.proofs.printing.put_more_coldefs.Given as goal

abbrev pub invariant-loop-column : goal.invariant-loop-column
invariant-loop-column g l = Wrote (g.O.Sink.seen l.fn.out) (g.O.Sink.seen l.out) (each_behind (codes ", ") coldef_text (take l.column-index l.columns))
