use Rattle.std.proofs.Common.{◌≡◌, take, length, ◌≤◌}
use Rattle.plan_closure.proofs.path.ConstraintPath.list.Given as goal

abbrev pub invariant-loop-step : goal.invariant-loop-step
invariant-loop-step l = (length l.step-items ≤ 12) × (l.list.items ≡ take l.step-index l.step-items)
