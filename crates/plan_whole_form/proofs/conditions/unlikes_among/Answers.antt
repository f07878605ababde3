use Rattle.std.proofs.Common.{[], sym, subst}
use Rattle.plan_whole_form.specs.Listed.{AreUnlikes}
use Rattle.plan_whole_form.proofs.Conditioned.{unlikes_first, unlikes_more, unlikes_all}
use Rattle.plan_whole_form.proofs.conditions.unlikes_among.Goals as goal

pub loop-atom-init : goal.loop-atom-init
loop-atom-init c = subst (AreUnlikes c.args.place []) (sym c.new-list.ensures) (unlikes_first c.args.place)

pub loop-atom-preserved : goal.loop-atom-preserved
loop-atom-preserved c = unlikes_more c.args.place c.args.atoms.now c.loop-atom.atom-index _ c.unlike.result c.loop-atom.list.items _ c.loop-atom-test.true c.unlike.ensures c.add.ensures c.loop-atom.invariant

pub returns : goal.returns
returns c = unlikes_all c.args.place c.args.atoms.now c.loop-atom.atom-index c.loop-atom.list.items c.loop-atom-test.false c.loop-atom.invariant
