use Rattle.std.proofs.Common.{◌≡◌, take, length, ◌<◌}
use Rattle.plan_closure.proofs.bounds.Bounds.copy.Given as goal

abbrev pub invariant-loop-c : goal.invariant-loop-c
invariant-loop-c l = (length l.c-items < 301) × (l.constraints.items ≡ take l.c-index l.c-items)
