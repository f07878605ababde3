use Rattle.std.proofs.Common.{take}
use Rattle.io_streams.specs.Sink.{Wrote}
use Rattle.sql_script.specs.Texts.{streams_text}
use Rattle.sql_script.proofs.printing.print_streams.Given as goal

-- the statements of the streams so far were written
abbrev pub invariant-loop-number : goal.invariant-loop-number
invariant-loop-number g l = Wrote (g.O.Sink.seen l.fn.out) (g.O.Sink.seen l.out) (streams_text (take l.number l.catalog))
