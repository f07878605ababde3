use Rattle.std.proofs.Common.{take}
use Rattle.fam_fooling_sets.specs.Moving.{Spans}
use Rattle.fam_fooling_sets.proofs.motion.span.Given as goal

abbrev pub invariant-loop-i : goal.invariant-loop-i
invariant-loop-i l = Spans l.consts (take l.i l.consts) l.ends
