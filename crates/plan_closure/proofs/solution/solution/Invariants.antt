use Rattle.std.proofs.Common.{◌≡◌, ℕ, ◌+◌, ◌<◌, ◌+ℤ◌, pos, nat_abs, length}
use Rattle.plan_closure.specs.Answers.{at_nodes}
use Rattle.plan_closure.specs.Closure.{bound_at}
use Rattle.plan_constraints.specs.Reach.{reach}
use Rattle.plan_closure.specs.Pinned.{pinned}
use Rattle.plan_closure.proofs.solution.solution.Given as goal

abbrev pub invariant-loop-k : goal.invariant-loop-k
invariant-loop-k l = (length l.list.items ≡ l.k) × ((j : ℕ) → j < l.k → at_nodes l.list.items (j + 1) ≡ reach (bound_at l.entries) (pinned l.i l.value (pos 100000000000000000 +ℤ pos (nat_abs l.value))) (l.attrs + 1) (j + 1))
