use Rattle.std.proofs.Common.{◌≡◌, ℕ, length, []}
use Rattle.std.specs.Prelude.{Some, slice_get, slice_index_or}
use Rattle.exec_synopsis.specs.declared.accesses.PlaceAccess.{PlaceAccess}
use Rattle.exec_synopsis.specs.Pinning.{IsWhole}
use Rattle.exec_synopsis.proofs.accesses.all_accesses.Given as goal

abbrev pub invariant-streams : goal.invariant-streams
invariant-streams l = record {
  count : length l.all.items ≡ l.arriving;
  each : (arriving place : ℕ) (access : PlaceAccess) → slice_get (slice_index_or l.all.items arriving (record { items = [] })).items place ≡ Some access → access ≡ PlaceAccess.Scan → IsWhole l.part arriving place;
}
