use Rattle.std.proofs.Common.{take}
use Rattle.exec_part_index.specs.Showing.{pairs_tested, AreSignsOf}
use Rattle.exec_part_index.proofs.tests.all_signs.Given as goal

abbrev pub invariant-parts : goal.invariant-parts
invariant-parts l = AreSignsOf l.q l.place (pairs_tested l.tests) (take l.k l.parts) l.all.items
