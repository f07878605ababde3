use Rattle.fam_motions.proofs.Passing.{FallsTo}
use Rattle.fam_motions.proofs.mixing.falls.Given as goal

abbrev pub invariant-loop-j : goal.invariant-loop-j
invariant-loop-j l = FallsTo l.attrs l.all l.above l.below l.j
