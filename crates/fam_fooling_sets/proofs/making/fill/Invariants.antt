use Rattle.fam_fooling_sets.specs.Members.{AreMembers}
use Rattle.fam_fooling_sets.specs.Shown.{rows_in, asking_in}
use Rattle.fam_fooling_sets.proofs.making.fill.Given as goal

abbrev pub invariant-loop-number : goal.invariant-loop-number
invariant-loop-number l = AreMembers l.ground l.own l.number (rows_in l.m.items) (asking_in l.g.items)
