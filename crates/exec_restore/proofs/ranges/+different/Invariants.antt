use Rattle.std.proofs.Common.{length}
use Rattle.exec_restore.proofs.ranges.+different.Given as goal

abbrev pub decreases-different : goal.decreases-different
decreases-different l = length l.select.now
