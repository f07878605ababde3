use Rattle.std.proofs.Common.{All, take}
use Rattle.fam_fooling_sets.specs.Laws.{IsLocal}
use Rattle.fam_fooling_sets.proofs.across.pair_across.Given as goal

abbrev pub invariant-loop-i : goal.invariant-loop-i
invariant-loop-i l = All IsLocal (take l.i l.pairs)
