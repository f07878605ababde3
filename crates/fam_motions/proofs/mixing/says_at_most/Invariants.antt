use Rattle.std.specs.Prelude.{⊤}
use Rattle.fam_motions.proofs.mixing.says_at_most.Given as goal

abbrev pub invariant-loop-atom : goal.invariant-loop-atom
invariant-loop-atom l = ⊤
