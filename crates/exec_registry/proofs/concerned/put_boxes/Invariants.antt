use Rattle.std.proofs.Common.{◌≡◌, ℕ, Some, Option, length, slice_get, slice_index_or}
use Rattle.exec_query_index.specs.declared.boxes.QueryBox.{QueryBox}
use Rattle.exec_query.specs.Passing.{IsBoxFor}
use Rattle.exec_registry.specs.Live.{Live}
use Rattle.exec_registry.proofs.concerned.put_boxes.Given as goal

abbrev pub invariant-loop-place : goal.invariant-loop-place
invariant-loop-place l = record {
  size : length l.boxes.items ≡ l.place;
  each : (k : ℕ) (d : Live) (own : Option QueryBox) → slice_get l.boxes.items k ≡ Some own
      → IsBoxFor (slice_index_or l.live k d).executor.query (slice_index_or l.live k d).executor.plan l.stream own;
}
