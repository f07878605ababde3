use Rattle.std.proofs.Common.{◌≤ℤ◌, All, take}
use Rattle.fam_fooling_sets.specs.Moving.{IsNearby}
use Rattle.fam_fooling_sets.proofs.motion.least.Given as goal

abbrev pub invariant-loop-i : goal.invariant-loop-i
invariant-loop-i l = IsNearby l.least × All (λ v. l.least ≤ℤ v) (take l.i l.values)
