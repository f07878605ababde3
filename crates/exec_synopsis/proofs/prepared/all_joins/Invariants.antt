use Rattle.std.proofs.Common.{◌≡◌, ℕ, length, IfSome}
use Rattle.std.specs.Prelude.{Option, Some, slice_get}
use Rattle.exec_synopsis.specs.declared.join_lookup.JoinLookup.{JoinLookup}
use Rattle.exec_synopsis.specs.Joining.{IsJoinLookup}
use Rattle.exec_synopsis.proofs.prepared.all_joins.Given as goal

abbrev pub invariant-streams : goal.invariant-streams
invariant-streams l = record {
  count : length l.all.items ≡ l.arriving;
  each : (arriving : ℕ) (listed : Option JoinLookup) → slice_get l.all.items arriving ≡ Some listed → IfSome listed (λ p. IsJoinLookup l.pairs l.part arriving p);
}
