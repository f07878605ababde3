use Rattle.std.proofs.Common.{take}
use Rattle.plan_links.specs.Sifting.{Sifts, IsOrderedEquality}
use Rattle.plan_links.proofs.links.equalities.Given as goal

abbrev pub invariant-loop-i : goal.invariant-loop-i
invariant-loop-i l = Sifts (IsOrderedEquality l.q l.p.signs.items) (take l.i l.links) l.list.items
