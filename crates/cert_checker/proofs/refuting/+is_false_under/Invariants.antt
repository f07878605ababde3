use Rattle.std.proofs.Common.{length}
use Rattle.cert_checker.proofs.refuting.+is_false_under.Given as goal

abbrev pub decreases-is_false_under : goal.decreases-is_false_under
decreases-is_false_under l = length l.pairs.now
