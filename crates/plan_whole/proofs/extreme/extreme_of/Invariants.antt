use Rattle.std.proofs.Common.{◌≤◌, map}
use Rattle.plan_whole.specs.Columns.{atom_of}
use Rattle.plan_whole.specs.Extremes.{IsBest}
use Rattle.plan_whole.proofs.extreme.extreme_of.Given as goal

abbrev pub invariant-loop-column : goal.invariant-loop-column
invariant-loop-column l = record {
  within : l.column ≤ 8;
  best : IsBest l.closed (map atom_of l.links) l.place l.column l.best;
}
