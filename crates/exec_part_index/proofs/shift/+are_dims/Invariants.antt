use Rattle.std.proofs.Common.{length}
use Rattle.exec_part_index.proofs.shift.+are_dims.Given as goal

abbrev pub decreases-are_dims : goal.decreases-are_dims
decreases-are_dims l = length l.dims.now
