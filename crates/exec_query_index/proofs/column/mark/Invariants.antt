use Rattle.std.proofs.Common.{◌+◌, ◌-◌, ◌≡◌, ℕ, ◌<◌, ◌≤◌, length, slice_index_or}
use Rattle.std.specs.Int.{bit_at}
use Rattle.exec_query_index.proofs.column.mark.Given as goal

abbrev pub invariant-buckets : goal.invariant-buckets
invariant-buckets l = record {
  size : length l.words ≡ length l.fn.words;
  start : l.from ≤ l.j;
  own : (i : ℕ) → l.from ≤ i → i < l.j → bit_at (slice_index_or l.words i 0) l.bit ≡ 1;
  kept : (i k : ℕ) → bit_at (slice_index_or l.fn.words i 0) k ≡ 1 → bit_at (slice_index_or l.words i 0) k ≡ 1;
}

abbrev pub decreases-buckets : goal.decreases-buckets
decreases-buckets l = l.to + 1 - l.j
