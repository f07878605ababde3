use Rattle.fam_fooling_sets.specs.Moving.{AreMovedMembers}
use Rattle.fam_fooling_sets.specs.Shown.{rows_in, asking_in}
use Rattle.fam_fooling_sets.proofs.making.fill_moved.Given as goal

abbrev pub invariant-loop-number : goal.invariant-loop-number
invariant-loop-number l = AreMovedMembers l.ground l.motion l.own l.number (rows_in l.m.items) (asking_in l.g.items)
