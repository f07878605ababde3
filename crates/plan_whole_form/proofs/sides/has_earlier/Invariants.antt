use Rattle.std.proofs.Common.{◌≤◌, map}
use Rattle.plan_whole.specs.Columns.{atom_of}
use Rattle.plan_whole_form.proofs.Opening.{NoEarlier}
use Rattle.plan_whole_form.proofs.sides.has_earlier.Given as goal

abbrev pub invariant-loop-column : goal.invariant-loop-column
invariant-loop-column l = record {
  within : l.column ≤ l.a.column;
  none : NoEarlier l.closed (map atom_of l.links) l.a l.column;
}
