use Rattle.std.proofs.Common.{◌≤◌, length}
use Rattle.fam_motions.proofs.drift.values_for.Given as goal

abbrev pub invariant-loop-place : goal.invariant-loop-place
invariant-loop-place l = length l.values.items ≤ l.place
