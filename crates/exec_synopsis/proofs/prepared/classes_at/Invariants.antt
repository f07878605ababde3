use Rattle.std.proofs.Common.{◌≡◌, ℕ, length}
use Rattle.std.specs.Prelude.{Option, Some, slice_get}
use Rattle.exec_synopsis.specs.Preparing.{class_of}
use Rattle.exec_synopsis.proofs.prepared.classes_at.Given as goal

abbrev pub invariant-columns : goal.invariant-columns
invariant-columns l = record {
  count : length l.classes.items ≡ l.column;
  each : (column : ℕ) (class : Option ℕ) → slice_get l.classes.items column ≡ Some class → class ≡ class_of l.pairs l.part (record { stream = l.stream; column = column });
}
