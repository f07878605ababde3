use Rattle.std.proofs.Common.{[], take}
use Rattle.exec_part_index.specs.Showing.{AreSignsOf}
use Rattle.exec_part_index.proofs.tests.no_signs.Given as goal

abbrev pub invariant-parts : goal.invariant-parts
invariant-parts l = AreSignsOf l.q l.place [] (take l.k l.parts) l.all.items
