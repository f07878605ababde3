use Rattle.std.proofs.Common.{ℕ, ◌<◌, ◌≤◌, length, slice_index_or}
use Rattle.plan_closure.specs.Shortest.{between, IsColumn}
use Rattle.plan_closure.proofs.distance.lowered.Given as goal

abbrev pub invariant-loop-j : goal.invariant-loop-j
invariant-loop-j l = record {
  few : length l.columns.items ≤ l.j;
  within : (m : ℕ) → m < length l.columns.items → slice_index_or l.columns.items m 0 < l.nodes;
  others : (j : ℕ) → j < l.j → IsColumn (between l.fn.table) l.left l.right l.bound l.columns.items j;
}
