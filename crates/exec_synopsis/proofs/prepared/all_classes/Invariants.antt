use Rattle.std.proofs.Common.{◌≡◌, ℕ, length, []}
use Rattle.std.specs.Prelude.{Option, Some, slice_get, slice_index_or}
use Rattle.exec_synopsis.specs.Preparing.{class_of}
use Rattle.exec_synopsis.proofs.prepared.all_classes.Given as goal

abbrev pub invariant-streams : goal.invariant-streams
invariant-streams l = record {
  count : length l.classes.items ≡ l.stream;
  each : (stream column : ℕ) (class : Option ℕ) → slice_get (slice_index_or l.classes.items stream (record { items = [] })).items column ≡ Some class → class ≡ class_of l.pairs l.part (record { stream = stream; column = column });
}
