use Rattle.fam_motions.proofs.AsNext.{FailElsewhere}
use Rattle.fam_motions.proofs.next.only_next_fail.Given as goal

abbrev pub invariant-loop-i : goal.invariant-loop-i
invariant-loop-i l = FailElsewhere l.q l.all l.place l.i
