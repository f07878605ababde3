use Rattle.std.proofs.Common.{◌≡◌, ℕ, length}
use Rattle.std.specs.Prelude.{Some, slice_get}
use Rattle.exec_synopsis.specs.declared.accesses.PlaceAccess.{PlaceAccess}
use Rattle.exec_synopsis.specs.Pinning.{IsWhole}
use Rattle.exec_synopsis.proofs.accesses.accesses_at.Given as goal

abbrev pub invariant-places : goal.invariant-places
invariant-places l = record {
  count : length l.places.items ≡ l.place;
  each : (place : ℕ) (access : PlaceAccess) → slice_get l.places.items place ≡ Some access → access ≡ PlaceAccess.Scan → IsWhole l.part l.arriving place;
}
