use Rattle.std.proofs.Common.{length}
use Rattle.adv_diagnosis.proofs.marks.+behind_anchor.Given as goal

abbrev pub decreases-behind_anchor : goal.decreases-behind_anchor
decreases-behind_anchor l = length l.tokens.now
