use Rattle.std.proofs.Common.{◌≡◌, ◌&&◌, ℕ, ℤ, true, drop}
use Rattle.std.specs.List.{list_all}
use Rattle.sem_query.specs.Plan.{dims_at}
use Rattle.sem_query.specs.Admission.{alone, in_range, keeps_local}
use Rattle.exec_synopsis.proofs.prepared.asked_of.Given as goal

abbrev pub invariant-conditions : goal.invariant-conditions
invariant-conditions l =
    (place : ℕ) (v : ℕ → ℤ) → list_all (in_range v) (dims_at l.part place) ≡ true
    → keeps_local place (alone v) l.part.local ≡ (keeps_local place (alone v) l.asked.items && keeps_local place (alone v) (drop l.condition-index l.part.local))
