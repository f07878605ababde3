use Rattle.std.proofs.Common.{length}
use Rattle.exec_restore.proofs.ranges.+at_column.Given as goal

abbrev pub decreases-at_column : goal.decreases-at_column
decreases-at_column l = length l.columns.now
