use Rattle.std.proofs.Common.{length}
use Rattle.exec_filter.proofs.passing.+box_among.Given as goal

abbrev pub decreases-box_among : goal.decreases-box_among
decreases-box_among l = length l.stream_filters.now
