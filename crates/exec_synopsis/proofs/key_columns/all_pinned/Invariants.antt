use Rattle.std.proofs.Common.{◌≡◌, ℕ, length, IfSome}
use Rattle.std.specs.Prelude.{Option, Some, slice_get}
use Rattle.exec_synopsis.specs.declared.key_columns.LookupKey.{LookupKey}
use Rattle.exec_synopsis.specs.Pinning.{IsPinned}
use Rattle.exec_synopsis.proofs.key_columns.all_pinned.Given as goal

abbrev pub invariant-streams : goal.invariant-streams
invariant-streams l = record {
  count : length l.all.items ≡ l.arriving;
  each : (arriving : ℕ) (pinned : Option LookupKey) → slice_get l.all.items arriving ≡ Some pinned → IfSome pinned (λ p. IsPinned l.part arriving p);
}
