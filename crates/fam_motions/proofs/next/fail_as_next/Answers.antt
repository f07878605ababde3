use Rattle.fam_motions.proofs.AsNext.{more-here}
use Rattle.fam_motions.proofs.next.fail_as_next.Goals as goal

pub loop-j-preserved : goal.loop-j-preserved
loop-j-preserved c = more-here c.args.q.now c.args.all.now c.args.place c.args.i c.loop-j.j c.loop-j.invariant (c.fails_as_next.ensures c.if-not-fails_as_next.false)
