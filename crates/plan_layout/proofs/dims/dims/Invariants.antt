use Rattle.plan_layout.specs.Classes.{AreDimsBelow}
use Rattle.plan_layout.proofs.dims.dims.Given as goal

abbrev pub invariant-loop-i : goal.invariant-loop-i
invariant-loop-i l = AreDimsBelow l.q l.p.signs.items l.place l.i l.list.items
