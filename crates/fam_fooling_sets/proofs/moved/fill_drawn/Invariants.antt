use Rattle.fam_fooling_sets.specs.Drawing.{AreDrawnMembers}
use Rattle.fam_fooling_sets.specs.Shown.{rows_in, asking_in}
use Rattle.fam_fooling_sets.proofs.moved.fill_drawn.Given as goal

abbrev pub invariant-loop-number : goal.invariant-loop-number
invariant-loop-number l = AreDrawnMembers l.ground l.all l.own l.number (rows_in l.m.items) (asking_in l.g.items)
