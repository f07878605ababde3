use Rattle.std.proofs.Common.{◌≡◌, map, take}
use Rattle.fam_fooling_sets.specs.Moving.{moved}
use Rattle.fam_fooling_sets.proofs.motion.moved_values.Given as goal

abbrev pub invariant-loop-i : goal.invariant-loop-i
invariant-loop-i l = l.list.items ≡ map (moved l.motion l.number) (take l.i l.motion.values.items)
