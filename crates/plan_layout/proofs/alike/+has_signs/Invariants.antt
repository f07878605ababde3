use Rattle.std.proofs.Common.{length}
use Rattle.plan_layout.proofs.alike.+has_signs.Given as goal

abbrev pub decreases-has_signs : goal.decreases-has_signs
decreases-has_signs l = length l.pairs.now
