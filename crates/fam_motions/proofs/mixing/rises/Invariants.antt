use Rattle.fam_motions.proofs.Passing.{RisesTo}
use Rattle.fam_motions.proofs.mixing.rises.Given as goal

abbrev pub invariant-loop-j : goal.invariant-loop-j
invariant-loop-j l = RisesTo l.attrs l.all l.above l.below l.j
