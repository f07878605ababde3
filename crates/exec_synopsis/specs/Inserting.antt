-- What taking a row into its cell makes of the cells of a stream.
use Rattle.std.specs.Prelude.{◌≡◌, ◌≢◌, ℕ, ◌<◌, ℤ, List, [], ◌∷◌, ◌++◌, length, slice_index_or, slice_set, IsTrue}
use Rattle.sem_query.specs.declared.cell.Cell.{Cell}
use Rattle.sem_query.specs.declared.cell.Cell.TheVariants.{Empty}
use Rattle.sem_query.specs.declared.plan.PartPlan.{PartPlan}
use Rattle.sem_query.specs.Query.{QueryValue}
use Rattle.sem_query.specs.Meaning.{Arrival, by_column}
use Rattle.sem_query.specs.Plan.{stream_at}
use Rattle.sem_query.specs.Admission.{admits}
use Rattle.sem_query.specs.Cells.{content, cell_of}
use Rattle.sem_query.specs.Combinations.{read_from}
use Rattle.sem_query.specs.Merge.{merged}
use Rattle.exec_pool.specs.declared.pool.Extent.{Extent}
use Rattle.exec_pool.specs.Extents.{PoolValue, cells_of, with_cells}
use Rattle.exec_synopsis.specs.Premises.{IsHeld, row_cell}

-- the cells of the box of a part and a place of FROM are those of a history
abbrev pub AreCellsOf : QueryValue → List Arrival → PartPlan → ℕ → List Cell → Type 0
AreCellsOf q history part place cells = (i : ℕ) → i < (stream_at part place).size → read_from cells part place i ≡ cell_of q history part place i

-- the cells, once a row is taken into the one that stands for it
abbrev pub cells_with_row : PartPlan → ℕ → List ℤ → List Cell → List Cell
cells_with_row part place row cells =
    slice_set cells (row_cell part place row) (merged (stream_at part place).kind (slice_index_or cells (row_cell part place row) Empty) (content (stream_at part place).kind (row ∷ [])))

-- the cells of the box are those of the history and the row, and no other cell changed
pub record TakesRow (q : QueryValue) (history : List Arrival) (r : Arrival) (part : PartPlan) (place : ℕ) (before after : List Cell) : Type 0 where
  pub grown : AreCellsOf q (history ++ r ∷ []) part place after
  pub count : length after ≡ length before
  pub others : (n : ℕ) → n ≢ row_cell part place r.values → slice_index_or after n Empty ≡ slice_index_or before n Empty

-- where the cells of a box are those of a history, what `put_own` does makes them those of the history and the row
abbrev pub InsertTakesRow : Type 0
InsertTakesRow =
    (q : QueryValue) (part : PartPlan) (place : ℕ) (before after : PoolValue) (e : Extent) (history : List Arrival) (r : Arrival)
    → place < length q.from → 1 < length q.from → IsHeld q part before e
    → r.stream ≡ slice_index_or q.from place 0 → IsTrue (admits q part place (by_column r.values))
    → after ≡ with_cells before e (cells_with_row part place r.values (cells_of before e))
    → AreCellsOf q history part place (cells_of before e)
    → TakesRow q history r part place (cells_of before e) (cells_of after e)
