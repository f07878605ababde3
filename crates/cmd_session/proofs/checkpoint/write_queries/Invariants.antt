use Rattle.std.proofs.Common.{take, ◌++◌, ◌∷◌, [], flat_map}
use Rattle.io_streams.specs.Sink.{Wrote}
use Rattle.exec_registry.specs.Live.{Live}
use Rattle.cmd_session.specs.CheckpointLines.{live_line}
use Rattle.cmd_session.proofs.checkpoint.write_queries.Given as goal

-- the lines of the live queries so far
abbrev pub invariant-loop-place : goal.invariant-loop-place
invariant-loop-place g l = Wrote (g.O.Sink.seen l.fn.out) (g.O.Sink.seen l.out) (flat_map (λ (x : Live). live_line l.catalog x ++ 10 ∷ []) (take l.place l.registry.live))
