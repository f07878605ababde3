-- Cells equally far apart that the links leave at a place, and what a look along them comes to.
use Rattle.std.specs.Prelude.{◌≡◌, ℕ, ◌+◌, ◌*◌, ◌<◌, ◌≤◌, List, length, ℤ, ◌-ℤ◌, ◌≤ℤ◌, nat_abs, None, Some}
use Rattle.sem_query.specs.Boxes.{dim_size, box_size, values_at}
use Rattle.sem_query.specs.Combinations.{Reading}
use Rattle.sem_query.specs.declared.cell.Cell.{Cell}
use Rattle.sem_query.specs.declared.part.Pair.{Pair}
use Rattle.sem_query.specs.declared.plan.Dim.{Dim}
use Rattle.sem_query.specs.declared.plan.PartPlan.{PartPlan}
use Rattle.exec_ranges.specs.Narrowed.{narrowed_dims}
use Rattle.exec_ranges.specs.Values.{rows_in}
use Rattle.exec_ranges.specs.declared.binding.Binding.{Binding}
use Rattle.exec_pool.specs.Strides.{Scanned}
use Rattle.exec_join.specs.Choosing.{cell_in}
use Rattle.exec_join.specs.Remaining.{limit}
use Rattle.exec_join.specs.declared.along.Along.{Along}
use Rattle.exec_join.specs.declared.along.CellLine.{CellLine}

-- the cells of a line, with each value that is left of one dim more, are those of another line, in order
pub record IsLongerLine (left dim : Dim) (line longer : CellLine) : Type 0 where
  pub each : (j : ℕ) (v : ℤ) → j < line.count → left.lo ≤ℤ v → v ≤ℤ left.hi
      → (line.first + j * line.stride) * dim_size dim + nat_abs (v -ℤ dim.lo) ≡ longer.first + (j * dim_size left + nat_abs (v -ℤ left.lo)) * longer.stride
  pub count : longer.count ≡ line.count * dim_size left
  pub few : longer.count ≤ line.count * dim_size dim
  pub low : longer.first + 1 ≤ (line.first + 1) * dim_size dim
  pub some : 1 ≤ longer.stride
  pub far : longer.stride ≤ line.stride * dim_size dim

-- how many combinations of values the links leave at the next place
abbrev pub tried_count : List Pair → PartPlan → ℕ → List ℤ → List Binding → ℕ
tried_count ps part arriving row known = box_size (narrowed_dims ps part arriving row known)

-- the cell for one of them
abbrev pub tried_cell : List Pair → PartPlan → Reading → ℕ → List ℤ → List Binding → ℕ → Cell
tried_cell ps part read arriving row known i = cell_in part read arriving (length known) (values_at (narrowed_dims ps part arriving row known) i)

-- a look along these cells was not taken, or found that all are empty, or the first that is not; each cell that was seen is one read
abbrev pub SeenAlong : List Pair → PartPlan → Reading → ℕ → List ℤ → List Binding → (before : ℕ) → Along → (after : ℕ) → Type 0
SeenAlong ps part read arriving row known before Along.Unasked after = after ≡ before
SeenAlong ps part read arriving row known before Along.Nothing after =
    (length known < length part.streams.items) × Scanned (tried_cell ps part read arriving row known) 0 (tried_count ps part arriving row known) before None after
SeenAlong ps part read arriving row known before (Along.Found filled) after =
    (length known < length part.streams.items) × Scanned (tried_cell ps part read arriving row known) 0 (tried_count ps part arriving row known) before (Some filled) after

-- what was found along these cells is one of them, and stands for no more rows than a cell of its place counts
abbrev pub IsCandidate : List Pair → PartPlan → (arriving : ℕ) → List ℤ → List Binding → Along → Type 0
IsCandidate ps part arriving row known Along.Unasked = Unit {0}
IsCandidate ps part arriving row known Along.Nothing = Unit {0}
IsCandidate ps part arriving row known (Along.Found filled) =
    (length known < length part.streams.items) × (filled.next < tried_count ps part arriving row known) × (rows_in filled.cell ≤ limit arriving (length known))
