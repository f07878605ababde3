use Rattle.std.proofs.Common.{length}
use Rattle.adv_diagnosis.proofs.passing.+stands_among.Given as goal

abbrev pub decreases-stands_among : goal.decreases-stands_among
decreases-stands_among l = length l.tokens.now
