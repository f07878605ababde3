use Rattle.std.proofs.Common.{◌-◌, ◌≤◌, length}
use Rattle.exec_registry.proofs.concerned.Concerned.new.Given as goal

abbrev pub invariant-streams : goal.invariant-streams
invariant-streams l = length l.streams.items ≤ 16

abbrev pub decreases-streams : goal.decreases-streams
decreases-streams l = 16 - length l.streams.items
