use Rattle.std.proofs.Common.{◌+◌, length}
use Rattle.plan_layout.proofs.alike.+has_conditions.Given as goal

abbrev pub decreases-has_conditions : goal.decreases-has_conditions
decreases-has_conditions l = length l.conditions.now + length l.others.now
