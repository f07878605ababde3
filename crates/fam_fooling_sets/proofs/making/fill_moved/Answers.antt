use Rattle.fam_fooling_sets.proofs.Motions.{moved-more}
use Rattle.fam_fooling_sets.proofs.making.fill_moved.Goals as goal

pub loop-number-preserved : goal.loop-number-preserved
loop-number-preserved c =
    moved-more c.args.ground.now c.args.motion.now c.args.own c.loop-number.number c.loop-number.m.items c.loop-number.g.items c.add_moved.new.m.items c.add_moved.new.g.items c.loop-number.invariant c.in-Ok.ensures
