use Rattle.std.proofs.Common.{◌≡◌, ℕ, length}
use Rattle.std.specs.Prelude.{Option, Some, slice_get}
use Rattle.exec_synopsis.specs.Joining.{column_at, class_at}
use Rattle.exec_synopsis.proofs.join_lookup.told_at.Given as goal

abbrev pub invariant-classes : goal.invariant-classes
invariant-classes l = record {
  count : length l.told.items ≡ l.class-index;
  each : (column : ℕ) (told : Option ℕ) → slice_get l.told.items column ≡ Some told → (c : ℕ) → told ≡ Some c → column_at l.keys (class_at l.pairs l.part l.place column) ≡ Some c;
}
