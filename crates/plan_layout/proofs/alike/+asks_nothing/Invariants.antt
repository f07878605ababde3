use Rattle.std.proofs.Common.{length}
use Rattle.plan_layout.proofs.alike.+asks_nothing.Given as goal

abbrev pub decreases-asks_nothing : goal.decreases-asks_nothing
decreases-asks_nothing l = length l.conditions.now
