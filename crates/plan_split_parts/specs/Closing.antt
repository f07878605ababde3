-- The table of the least bounds between nodes.
use Rattle.std.specs.Prelude.{ℕ, ◌<◌, ◌≤◌, ◌/◌, ◌%◌, ℤ, List, Option, None, slice_index_or}
use Rattle.plan_constraints.specs.declared.constraint.Constraint.{Constraint}
use Rattle.plan_constraints.specs.Solutions.{IsUpperAnswer}
use Rattle.plan_closure.specs.declared.distances.Distances.{Distances}
use Rattle.plan_closure.specs.Answers.{IsSmall}
use Rattle.plan_closure.specs.Shortest.{AreDistancesOf}

-- the least bound that belongs to a place of a table with 13 to a row, whatever constraints the distances are of
abbrev pub IsBoundFor : Distances → ℕ → Option ℤ → Type 0
IsBoundFor d k o = (n : ℕ) (cs : List Constraint) → AreDistancesOf d n cs → k / 13 ≤ n → k % 13 ≤ n → IsUpperAnswer cs (k / 13) (k % 13) o × IsSmall o

-- the table holds at each place what belongs there
abbrev pub AreBoundsOf : Distances → List (Option ℤ) → Type 0
AreBoundsOf d bounds = (k : ℕ) → k < 169 → IsBoundFor d k (slice_index_or bounds k None)
