use Rattle.std.proofs.Common.{◌≡◌, ℕ, ◌<◌, ◌≤◌, Some, length, slice_get, slice_index_or}
use Rattle.std.specs.Int.{bit_at}
use Rattle.exec_query_index.specs.declared.boxes.QueryBox.{QueryBox}
use Rattle.exec_query_index.specs.Boxes.{unbounded}
use Rattle.exec_query_index.specs.Buckets.{bucket}
use Rattle.exec_query_index.proofs.column.words_of.Given as goal

abbrev pub invariant-loop-k : goal.invariant-loop-k
invariant-loop-k l = record {
  size : length l.words ≡ 256;
  marks : (i : ℕ) (box : QueryBox) → i < l.k → slice_get l.boxes i ≡ Some (Some box) → (j : ℕ) → j < 256
      → bucket l.grid (slice_index_or box.columns l.column unbounded).least ≤ j → j ≤ bucket l.grid (slice_index_or box.columns l.column unbounded).greatest
      → bit_at (slice_index_or l.words j 0) i ≡ 1;
}
