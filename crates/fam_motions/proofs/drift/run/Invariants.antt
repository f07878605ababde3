use Rattle.fam_motions.specs.Apart.{AreSolutions}
use Rattle.fam_motions.proofs.drift.run.Given as goal

abbrev pub invariant-loop-number : goal.invariant-loop-number
invariant-loop-number l = AreSolutions l.q l.number l.all.items
