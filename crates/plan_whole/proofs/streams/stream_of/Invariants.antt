use Rattle.std.proofs.Common.{◌≤◌, map}
use Rattle.plan_whole.specs.Columns.{atom_of}
use Rattle.plan_whole.proofs.Streaming.{AreDimsOf}
use Rattle.plan_whole.proofs.streams.stream_of.Given as goal

abbrev pub invariant-loop-column : goal.invariant-loop-column
invariant-loop-column l = record {
  within : l.column ≤ 8;
  dims : AreDimsOf l.closed (map atom_of l.links) l.place l.kind l.column l.dims.items;
}
