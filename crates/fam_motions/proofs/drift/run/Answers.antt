use Rattle.std.proofs.Common.{subst}
use Rattle.fam_motions.specs.Values.{IsSolution}
use Rattle.fam_motions.proofs.Solutions.{one-more}
use Rattle.fam_motions.proofs.drift.run.Goals as goal

pub loop-number-preserved : goal.loop-number-preserved
loop-number-preserved c =
    one-more c.args.q.now c.loop-number.number c.loop-number.all.items _ c.values_for-values.result c.in-Ok.ensures.items c.loop-number.invariant
    (subst (IsSolution c.args.q.now) c.as_slice.ensures.value (c.is_solution.ensures c.if-not-is_solution.false))
