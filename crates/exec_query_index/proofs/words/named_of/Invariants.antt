use Rattle.std.proofs.Common.{◌≡◌, ℕ, ◌<◌, Some, slice_get}
use Rattle.std.specs.Int.{bit_at}
use Rattle.exec_query_index.specs.declared.boxes.QueryBox.{QueryBox}
use Rattle.exec_query_index.proofs.words.named_of.Given as goal

abbrev pub invariant-loop-k : goal.invariant-loop-k
invariant-loop-k l = record {
  only : (i : ℕ) → bit_at l.word i ≡ 1 → i < l.k;
  all : (i : ℕ) (box : QueryBox) → i < l.k → slice_get l.boxes i ≡ Some (Some box) → bit_at l.word i ≡ 1;
}
