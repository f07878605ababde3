use Rattle.std.proofs.Common.{length}
use Rattle.exec_filter.proofs.prefilter.+comes_in.Given as goal

abbrev pub decreases-comes_in : goal.decreases-comes_in
decreases-comes_in l = length l.stream_filters.now
