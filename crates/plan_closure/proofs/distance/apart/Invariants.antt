use Rattle.std.proofs.Common.{◌≡◌, ℕ, ◌<◌, ◌/◌, ◌%◌, length, slice_index_or}
use Rattle.plan_closure.specs.Shortest.{bound_of, no_distance, IsApart}
use Rattle.plan_closure.proofs.distance.apart.Given as goal

abbrev pub invariant-loop-k : goal.invariant-loop-k
invariant-loop-k l = (length l.table ≡ 169) × ((k : ℕ) → k < l.k → IsApart (k / 13) (k % 13) (bound_of (slice_index_or l.table k no_distance)))
