use Rattle.std.proofs.Common.{◌≡◌, ℕ, ◌<◌, Some, slice_get, slice_index_or}
use Rattle.exec_query_index.specs.declared.boxes.QueryBox.{QueryBox}
use Rattle.exec_query_index.specs.Boxes.{unbounded}
use Rattle.exec_query_index.proofs.candidates.is_bounded.Given as goal

abbrev pub invariant-loop-place : goal.invariant-loop-place
invariant-loop-place l = (k : ℕ) (box : QueryBox) → k < l.place-index → slice_get l.boxes k ≡ Some (Some box) → slice_index_or box.columns l.column unbounded ≡ unbounded
