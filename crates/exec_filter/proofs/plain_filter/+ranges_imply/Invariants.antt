use Rattle.std.proofs.Common.{length}
use Rattle.exec_filter.proofs.plain_filter.+ranges_imply.Given as goal

abbrev pub decreases-ranges_imply : goal.decreases-ranges_imply
decreases-ranges_imply l = length l.ranges.now
