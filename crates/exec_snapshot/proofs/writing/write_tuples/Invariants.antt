use Rattle.std.proofs.Common.{take}
use Rattle.io_streams.specs.Sink.{Wrote}
use Rattle.exec_query.specs.Executor.{tuples_in}
use Rattle.exec_snapshot.specs.Lines.{printed_statements, statements_text}
use Rattle.exec_snapshot.proofs.writing.write_tuples.Given as goal

-- the lines for the tuples so far
abbrev pub invariant-loop-number : goal.invariant-loop-number
invariant-loop-number g l = Wrote (g.O.Sink.seen l.fn.out) (g.O.Sink.seen l.out) (statements_text (printed_statements l.name l.kept.query.distinct (take l.number (tuples_in l.kept))))
