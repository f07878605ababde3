use Rattle.std.proofs.Common.{take, ◌≡◌, ◌≤◌, ◌+◌, flat_map}
use Rattle.std.specs.List.{sum_by}
use Rattle.io_streams.specs.Sink.{Wrote}
use Rattle.exec_snapshot.specs.Lines.{text_of_lines}
use Rattle.exec_registry.specs.Live.{Live, plan_cells}
use Rattle.cmd_session.specs.CheckpointLines.{live_lines}
use Rattle.cmd_session.proofs.checkpoint.write_states.Given as goal

-- the lines of what the live queries so far keep
abbrev pub invariant-loop-place : goal.invariant-loop-place
invariant-loop-place g l = record {
  lines : Wrote (g.O.Sink.seen l.fn.out) (g.O.Sink.seen l.out) (flat_map (λ (x : Live). text_of_lines (live_lines l.registry.pool x)) (take l.place l.registry.live));
  reads : l.steps.reads ≤ l.fn.steps.reads + sum_by (λ (x : Live). plan_cells x.executor.plan) (take l.place l.registry.live);
  writes : l.steps.writes ≡ l.fn.steps.writes;
}
