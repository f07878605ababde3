use Rattle.std.proofs.Common.{◌≤◌, length, map}
use Rattle.plan_whole.specs.Columns.{atom_of}
use Rattle.plan_whole.proofs.Streaming.{ArePlannedTo}
use Rattle.plan_whole.proofs.plan.streams_of.Given as goal

abbrev pub invariant-loop-place : goal.invariant-loop-place
invariant-loop-place l = record {
  within : l.place ≤ length l.closed.from;
  planned : ArePlannedTo l.closed (map atom_of l.links) l.place l.streams.items;
}
