use Rattle.std.proofs.Common.{◌≡◌, ◌≤◌, ◌&&◌, ℕ, ℤ, true, length, drop}
use Rattle.std.specs.List.{list_all}
use Rattle.sem_query.specs.Plan.{dims_at}
use Rattle.sem_query.specs.Admission.{alone, in_range, keeps_signs}
use Rattle.exec_synopsis.specs.Preparing.{keeps_tests}
use Rattle.exec_synopsis.proofs.prepared.tests_of.Given as goal

abbrev pub invariant-pairs : goal.invariant-pairs
invariant-pairs l = record {
  few : length l.tests.items ≤ l.i;
  so_far : (place : ℕ) (v : ℕ → ℤ) → list_all (in_range v) (dims_at l.part place) ≡ true
      → keeps_signs place (alone v) l.pairs l.part.signs.items
      ≡ (keeps_tests place (alone v) l.pairs l.part.signs.items l.tests.items && keeps_signs place (alone v) (drop l.i l.pairs) (drop l.i l.part.signs.items));
}
