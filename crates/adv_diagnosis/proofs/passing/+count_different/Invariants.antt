use Rattle.std.proofs.Common.{length}
use Rattle.adv_diagnosis.proofs.passing.+count_different.Given as goal

abbrev pub decreases-count_different : goal.decreases-count_different
decreases-count_different l = length l.tokens.now
