use Rattle.std.proofs.Common.{take}
use Rattle.plan_layout.specs.Sums.{AreSizesOf}
use Rattle.plan_layout.proofs.selecting.tuples_in.Given as goal

abbrev pub invariant-columns : goal.invariant-columns
invariant-columns l = AreSizesOf l.q l.p.signs.items (take l.i l.columns) l.size
