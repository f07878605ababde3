use Rattle.std.proofs.Common.{length}
use Rattle.io_streams.proofs.Writing.{Underway}
use Rattle.io_streams.proofs.write.write_all.Given as goal

abbrev pub invariant-writing : goal.invariant-writing
invariant-writing g l = Underway (g.O.Sink.seen l.fn.out) (g.O.Sink.seen l.out) l.piece l.rest

abbrev pub decreases-writing : goal.decreases-writing
decreases-writing g l = length l.rest
