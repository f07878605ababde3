use Rattle.std.proofs.Common.{◌≡◌, ℕ, ◌+◌, ◌*◌, ◌<◌, ◌≤◌, length, slice_index_or}
use Rattle.plan_closure.specs.Tightened.{tightened}
use Rattle.plan_closure.specs.Shortest.{between, no_distance}
use Rattle.plan_closure.proofs.distance.shorten.Given as goal

abbrev pub invariant-loop-i : goal.invariant-loop-i
invariant-loop-i l =
    (length l.table ≡ 169) × ((i j : ℕ) → i < l.i → j < l.nodes → between l.table i j ≡ tightened (between l.fn.table) l.c.left l.c.right l.c.bound i j)
    × ((k : ℕ) → 13 * l.i ≤ k → slice_index_or l.table k no_distance ≡ slice_index_or l.fn.table k no_distance) × ((j : ℕ) → j < 13 → slice_index_or l.table (13 * l.c.right + j) no_distance ≡ slice_index_or l.fn.table (13 * l.c.right + j) no_distance)
