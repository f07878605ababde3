use Rattle.std.proofs.Common.{take, ◌++◌, ◌∷◌, [], flat_map}
use Rattle.io_streams.specs.Sink.{Wrote}
use Rattle.sql_catalog.specs.Streams.{Shape}
use Rattle.cmd_session.specs.Checkpoint.{stream_line}
use Rattle.cmd_session.proofs.checkpoint.write_streams.Given as goal

-- the lines of the streams so far
abbrev pub invariant-loop-number : goal.invariant-loop-number
invariant-loop-number g l = Wrote (g.O.Sink.seen l.fn.out) (g.O.Sink.seen l.out) (flat_map (λ (s : Shape). stream_line s ++ 10 ∷ []) (take l.number l.catalog))
