use Rattle.std.proofs.Common.{length}
use Rattle.plan_layout.proofs.alike.+has_dims.Given as goal

abbrev pub decreases-has_dims : goal.decreases-has_dims
decreases-has_dims l = length l.dims.now
