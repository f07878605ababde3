use Rattle.std.proofs.Common.{length}
use Rattle.adv_diagnosis.proofs.marks.+behind_named.Given as goal

abbrev pub decreases-behind_named : goal.decreases-behind_named
decreases-behind_named l = length l.tokens.now
