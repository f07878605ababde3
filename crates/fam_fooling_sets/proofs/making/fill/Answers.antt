use Rattle.fam_fooling_sets.proofs.Points.{members-more}
use Rattle.fam_fooling_sets.proofs.making.fill.Goals as goal

pub loop-number-preserved : goal.loop-number-preserved
loop-number-preserved c = members-more c.args.ground.now c.args.own c.loop-number.number c.loop-number.m.items c.loop-number.g.items c.add.new.m.items c.add.new.g.items c.loop-number.invariant c.in-Ok.ensures
