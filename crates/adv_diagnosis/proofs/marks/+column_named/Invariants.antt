use Rattle.std.proofs.Common.{length}
use Rattle.adv_diagnosis.proofs.marks.+column_named.Given as goal

abbrev pub decreases-column_named : goal.decreases-column_named
decreases-column_named l = length l.tokens.now
