use Rattle.std.proofs.Common.{take}
use Rattle.plan_whole_form.specs.Listed.{AreUnlikes}
use Rattle.plan_whole_form.proofs.conditions.unlikes_among.Given as goal

abbrev pub invariant-loop-atom : goal.invariant-loop-atom
invariant-loop-atom l = AreUnlikes l.place (take l.atom-index l.atoms) l.list.items
