-- The places of cells: which combination of values each stands for, and that no two boxes meet.
use Rattle.std.specs.Prelude.{◌≡◌, ℕ, ◌+◌, ◌<◌, ◌≤◌, ℤ, List, length, IsTrue, slice_get}
use Rattle.std.specs.declared.option.Option.TheVariants.{Some}
use Rattle.sem_query.specs.declared.plan.Dim.{Dim}
use Rattle.sem_query.specs.declared.plan.PartPlan.{PartPlan}
use Rattle.sem_query.specs.Query.{QueryValue}
use Rattle.sem_query.specs.Meaning.{Arrival}
use Rattle.sem_query.specs.Boxes.{box_size, place_of, values_at, AreInside}
use Rattle.sem_query.specs.Plan.{stream_at, dims_at, Follow}
use Rattle.sem_query.specs.Admission.{admits}
use Rattle.sem_query.specs.Cells.{dim_values, synopsis}
use Rattle.sem_query.specs.declared.cell.Cell.{Cell}
use Rattle.sem_query.specs.Combinations.{read_from}
use Rattle.sem_query.specs.Numbers.{cell_count}

-- the place of a combination and the combination at a place are inverse to each other
pub record ArePlacesOf (dims : List Dim) : Type 0 where
  pub below : (xs : List ℤ) → AreInside dims xs → place_of dims xs < box_size dims
  pub back : (xs : List ℤ) → AreInside dims xs → values_at dims (place_of dims xs) ≡ xs
  pub inside : (place : ℕ) → place < box_size dims → AreInside dims (values_at dims place)
  pub there : (place : ℕ) → place < box_size dims → place_of dims (values_at dims place) ≡ place

-- places and combinations of values are one to one, for all dims
abbrev pub PlacesAreInverse : Type 0
PlacesAreInverse = (dims : List Dim) → ArePlacesOf dims

-- a row that a part admits has its dim values in the box
abbrev pub AdmittedRowsHavePlaces : Type 0
AdmittedRowsHavePlaces =
    (q : QueryValue) (part : PartPlan) (place : ℕ) (v : ℕ → ℤ)
    → IsTrue (admits q part place v) → AreInside (dims_at part place) (dim_values (dims_at part place) v)

-- place i of the box of the part with this number in the plan, at a place of FROM
pub record IsBox (plan : List PartPlan) (number : ℕ) (part : PartPlan) (place i : ℕ) : Type 0 where
  pub at : slice_get plan number ≡ Some part
  pub there : place < length part.streams.items
  pub inside : i < (stream_at part place).size

-- two boxes have no cell in common, and all lie within the cells of the plan
abbrev pub BoxesAreApart : Type 0
BoxesAreApart =
    (plan : List PartPlan) → Follow 0 plan
    → ((m : ℕ) (part : PartPlan) (place : ℕ) → slice_get plan m ≡ Some part → place < length part.streams.items
    → (stream_at part place).base + (stream_at part place).size ≤ cell_count plan)
    × ((m n : ℕ) (part other : PartPlan) (place there i j : ℕ)
    → IsBox plan m part place i → IsBox plan n other there j
    → (stream_at part place).base + i ≡ (stream_at other there).base + j
    → (m ≡ n) × (place ≡ there) × (i ≡ j))

-- a synopsis has as many cells as are announced
abbrev pub SynopsisHasCells : Type 0
SynopsisHasCells = (q : QueryValue) (plan : List PartPlan) (history : List Arrival) → length (synopsis q plan history) ≡ cell_count plan

-- as many cells as are announced are fixed by what stands at each place of each box
abbrev pub CellsAreRead : Type 0
CellsAreRead =
    (plan : List PartPlan) → Follow 0 plan
    → (cells others : List Cell) → length cells ≡ cell_count plan → length others ≡ cell_count plan
    → ((n : ℕ) (part : PartPlan) (place i : ℕ) → IsBox plan n part place i → read_from cells part place i ≡ read_from others part place i)
    → cells ≡ others
