use Rattle.fam_motions.proofs.AsNext.{more-elsewhere}
use Rattle.fam_motions.proofs.next.only_next_fail.Goals as goal

pub loop-i-preserved : goal.loop-i-preserved
loop-i-preserved c = more-elsewhere c.args.q.now c.args.all.now c.args.place c.loop-i.i c.loop-i.invariant (λ j l. c.fail_as_next.ensures j c.if-not-fail_as_next.false l)
