use Rattle.std.proofs.Common.{arith}
use Rattle.adv_mends.proofs.SetSearchLaws.{least_none, least_step, within_there}
use Rattle.adv_mends.proofs.searching.look_through.Goals as goal

pub loop-i-init : goal.loop-i-init
loop-i-init c = rw c.new-found.ensures.items (least_none c.args.kind c.args.query.now)

pub look_at-requires : goal.look_at-requires
look_at-requires c = within_there c.args.kind c.args.query.now c.loop-i.i _ _ c.args.sets.now c.requires (omega (arith, c.loop-i-test.true, c.min-i-end.ensures)) c.index-sets-i.is

pub loop-i-preserved : goal.loop-i-preserved
loop-i-preserved c =
    least_step c.args.kind c.args.query.now c.loop-i.i _ _ c.args.sets.now c.loop-i.found.items c.look_at.new.found.items c.requires (omega (arith, c.loop-i-test.true, c.min-i-end.ensures)) c.index-sets-i.is
    c.loop-i.invariant c.in_ok-look_at.ensures
