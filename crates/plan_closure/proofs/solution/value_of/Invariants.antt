use Rattle.std.proofs.Common.{◌≡◌}
use Rattle.plan_closure.specs.Closure.{bound_at}
use Rattle.plan_constraints.specs.Reach.{reach}
use Rattle.plan_closure.specs.Pinned.{pinned}
use Rattle.plan_closure.proofs.solution.value_of.Given as goal

abbrev pub invariant-loop-m : goal.invariant-loop-m
invariant-loop-m l = l.least ≡ reach (bound_at l.entries) (pinned l.i l.value l.large) l.m l.k
