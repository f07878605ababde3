use Rattle.fam_motions.proofs.AsNext.{FailHere}
use Rattle.fam_motions.proofs.next.fail_as_next.Given as goal

abbrev pub invariant-loop-j : goal.invariant-loop-j
invariant-loop-j l = FailHere l.q l.all l.place l.i l.j
