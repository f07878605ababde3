use Rattle.std.proofs.Common.{◌≡◌, ℕ, drop}
use Rattle.std.specs.Int.{bit_at}
use Rattle.exec_query_index.specs.Buckets.{narrowed, AreMarked}
use Rattle.exec_query_index.proofs.candidates.narrowed.Given as goal

abbrev pub invariant-loop-column : goal.invariant-loop-column
invariant-loop-column l = record {
  value : narrowed l.left l.row (drop l.column-index l.columns) ≡ narrowed l.word l.row l.columns;
  held : (k : ℕ) → AreMarked k l.row l.columns → bit_at l.word k ≡ 1 → bit_at l.left k ≡ 1;
}
