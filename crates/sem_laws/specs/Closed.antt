-- Closed tables. With DISTINCT a cell is saturated where the table has each tuple that the cell tells together with present cells of the
-- other places of FROM, and a table is closed where each cell is. A row that leaves a saturated cell as it is answers nothing new.
use Rattle.std.specs.Prelude.{◌≡◌, ◌⊎◌, ℕ, ◌<◌, true, ℤ, List, [], ◌∷◌, length, IsTrue, IsFalse, Contains}
use Rattle.std.specs.List.{slice_index_or}
use Rattle.sem_query.specs.declared.cell.Cell.{Cell}
use Rattle.sem_query.specs.declared.plan.PartPlan.{PartPlan}
use Rattle.sem_query.specs.Query.{QueryValue, IsWithinLimits, is_filter}
use Rattle.sem_query.specs.Meaning.{Arrival, by_column}
use Rattle.sem_query.specs.Domains.{RowsKeep}
use Rattle.sem_query.specs.Plan.{stream_at, dims_at}
use Rattle.sem_query.specs.Serving.{IsServing}
use Rattle.sem_query.specs.Admission.{admits}
use Rattle.sem_query.specs.Cells.{row_place, content, FitsKind}
use Rattle.sem_query.specs.Combinations.{Choice, cell_choice, Reading, read_from, Found, found_in}
use Rattle.sem_query.specs.Probing.{found_beside}
use Rattle.sem_query.specs.Future.{spelled_out}
use Rattle.sem_query.specs.Merge.{merged}
use Rattle.sem_query.specs.Sharing.{Box, sizes_in}
use Rattle.sem_query.specs.Bases.{Base, first_base, base_of, kept, kept_row}
use Rattle.sem_laws.specs.Sharing.{AreBoxesOf}

-- a query with DISTINCT that is no filter, and parts that serve it
pub record IsDistinctPlan (q : QueryValue) (plan : List PartPlan) : Type 0 where
  pub limits : IsWithinLimits q
  pub several : IsFalse (is_filter q)
  pub serving : IsServing q plan
  pub distinct : q.distinct ≡ true

-- the cell at place i of the box of a part and a place of FROM is saturated: the table has each tuple that the cell, read as a row, is
-- answered beside the present cells of the other places
abbrev pub IsSaturated : QueryValue → PartPlan → Reading → List (List ℤ) → ℕ → ℕ → Type 0
IsSaturated q part read table place i =
    (c : Choice) → Contains (cell_choice q part place i (read part place i)) c → 0 < c.times
    → (t : List ℤ) → Contains (spelled_out (found_beside q part read place c.values)) t → Contains table t

-- a table is closed over the cells of a plan where each cell is saturated
abbrev pub IsClosed : QueryValue → List PartPlan → Reading → List (List ℤ) → Type 0
IsClosed q plan read table =
    (part : PartPlan) → Contains plan part → (place i : ℕ) → place < length q.from → i < (stream_at part place).size → IsSaturated q part read table place i

-- the place in its box of the cell that a row falls into at a place of FROM
abbrev pub own_place : PartPlan → ℕ → List ℤ → ℕ
own_place part place row = row_place (dims_at part place) (by_column row)

-- what a cell of that place holds of the row alone
abbrev pub own_content : PartPlan → ℕ → List ℤ → Cell
own_content part place row = content (stream_at part place).kind (row ∷ [])

-- what the cell that the row falls into holds with the row
abbrev pub with_own : PartPlan → Reading → ℕ → List ℤ → Cell
with_own part read place row = merged (stream_at part place).kind (read part place (own_place part place row)) (own_content part place row)

-- each cell of a part is of its kind
abbrev pub AreOfKinds : PartPlan → Reading → Type 0
AreOfKinds part read =
    (place i : ℕ) → place < length part.streams.items → i < (stream_at part place).size → FitsKind (stream_at part place).kind (read part place i)

-- a row leaves the cell that it falls into as it is, or the cell holds with it what it would hold of the row alone
abbrev pub CellsStayOrTurn : Type 0
CellsStayOrTurn =
    (q : QueryValue) (plan : List PartPlan) → IsDistinctPlan q plan → (part : PartPlan) → Contains plan part
    → (read : Reading) (place : ℕ) (row : List ℤ) → place < length q.from
    → (with_own part read place row ≡ read part place (own_place part place row)) ⊎ (with_own part read place row ≡ own_content part place row)

-- what a part answers to a row that leaves the cell that it falls into as it is, and that cell is saturated, is in the table
abbrev pub SaturatedCellsAnswerNothingNew : Type 0
SaturatedCellsAnswerNothingNew =
    (q : QueryValue) (plan : List PartPlan) → IsDistinctPlan q plan → (part : PartPlan) → Contains plan part
    → (read : Reading) → AreOfKinds part read → (table : List (List ℤ)) (r : Arrival) (place : ℕ)
    → place < length q.from → slice_index_or q.from place 0 ≡ r.stream → own_place part place r.values < (stream_at part place).size
    → with_own part read place r.values ≡ read part place (own_place part place r.values)
    → IsSaturated q part read table place (own_place part place r.values)
    → (f : Found) → Contains (found_in q part read r) f → Contains table f.tuple

-- a cell of a base, and a base of which each cell is saturated
abbrev pub IsSaturatedIn : QueryValue → PartPlan → Base → ℕ → ℕ → Type 0
IsSaturatedIn q part base = IsSaturated q part (read_from base.cells) base.table

abbrev pub IsClosedBase : QueryValue → List PartPlan → Base → Type 0
IsClosedBase q plan base = IsClosed q plan (read_from base.cells) base.table

-- a row leaves saturated each cell that is, and saturates the cell that it falls into where that holds with it what it would hold of the
-- row alone
pub record StaySaturated (q : QueryValue) (plan : List PartPlan) (list : List Box) (base : Base) (r : Arrival) : Type 0 where
  pub stay : (part : PartPlan) → Contains plan part → (place i : ℕ) → place < length q.from → i < (stream_at part place).size
      → IsSaturatedIn q part base place i → IsSaturatedIn q part (kept_row q plan list base r) place i
  pub own : (part : PartPlan) → Contains plan part → (place : ℕ) → place < length q.from → slice_index_or q.from place 0 ≡ r.stream
      → IsTrue (admits q part place (by_column r.values)) → own_place part place r.values < (stream_at part place).size
      → with_own part (read_from base.cells) place r.values ≡ own_content part place r.values
      → IsSaturatedIn q part (kept_row q plan list base r) place (own_place part place r.values)

abbrev pub CellsStaySaturated : Type 0
CellsStaySaturated =
    (q : QueryValue) (plan : List PartPlan) → IsDistinctPlan q plan → (list : List Box) → AreBoxesOf q plan list
    → (base : Base) (r : Arrival) → length base.cells ≡ sizes_in list → StaySaturated q plan list base r

-- empty cells are saturated; so a base is closed after creation and stays so with every row, and each that a history comes to is closed
pub record StayClosed (q : QueryValue) (plan : List PartPlan) (list : List Box) : Type 0 where
  pub first : IsClosedBase q plan (first_base list)
  pub row : (base : Base) (r : Arrival) → length base.cells ≡ sizes_in list → IsClosedBase q plan base → IsClosedBase q plan (kept_row q plan list base r)
  pub rows : (base : Base) (history : List Arrival) → length base.cells ≡ sizes_in list → IsClosedBase q plan base
      → IsClosedBase q plan (kept q plan list base history)
  pub histories : (history : List Arrival) → RowsKeep q history → IsClosedBase q plan (base_of q list history)

abbrev pub TablesStayClosed : Type 0
TablesStayClosed =
    (q : QueryValue) (plan : List PartPlan) → IsDistinctPlan q plan → (list : List Box) → AreBoxesOf q plan list → StayClosed q plan list
