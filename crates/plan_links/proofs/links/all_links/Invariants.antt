use Rattle.std.proofs.Common.{◌≡◌, ◌++◌, drop}
use Rattle.plan_links.specs.Sifting.{links_among}
use Rattle.plan_links.proofs.links.all_links.Given as goal

abbrev pub invariant-loop-i : goal.invariant-loop-i
invariant-loop-i l = l.list.items ++ links_among (drop l.i l.attrs) l.attrs ≡ links_among l.attrs l.attrs
