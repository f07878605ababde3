use Rattle.std.proofs.Common.{take}
use Rattle.plan_links.specs.Sifting.{Sifts, IsAcross}
use Rattle.plan_links.proofs.links.links_across.Given as goal

abbrev pub invariant-loop-i : goal.invariant-loop-i
invariant-loop-i l = Sifts IsAcross (take l.i l.links) l.list.items
