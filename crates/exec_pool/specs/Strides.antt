-- Cells that stand equally far apart, and the first of them that is not empty.
use Rattle.std.specs.Prelude.{◌≡◌, ℕ, zero, suc, ◌+◌, ◌*◌, ◌/◌, ◌%◌, ◌<◌, ◌≤◌, List, length, slice_index, slice_index_or, Option, MatchOption}
use Rattle.sem_query.specs.declared.cell.Cell.{Cell}
use Rattle.sem_query.specs.declared.cell.Cell.TheVariants.{Empty}
use Rattle.exec_pool.specs.declared.scan.StridedCells.{StridedCells}
use Rattle.exec_pool.specs.declared.scan.Occupied.{Occupied}

-- the cell at a place of a line
abbrev pub at_stride : List Cell → StridedCells → ℕ → Cell
at_stride cells strided i = slice_index_or cells (strided.first + i * strided.stride) Empty

-- of these cells, those from one place up to another are empty
abbrev pub NoneOccupied : (ℕ → Cell) → ℕ → ℕ → Type 0
NoneOccupied at from to = (i : ℕ) → from ≤ i → i < to → at i ≡ Empty

-- the first of these cells from one place on that is not empty, below another
pub record IsFirst (at : ℕ → Cell) (from to : ℕ) (occupied : Occupied) : Type 0 where
  pub after : from ≤ occupied.next
  pub below : occupied.next < to
  pub before : NoneOccupied at from occupied.next
  pub cell : at occupied.next ≡ occupied.cell
  pub some : occupied.cell ≡ Empty → ⊥

-- of these cells from one place up to another the first one was found that is not empty, if one is not; and each cell that
-- was seen is one read
abbrev pub Scanned : (ℕ → Cell) → (from to before : ℕ) → Option Occupied → (after : ℕ) → Type 0
Scanned at from to before found after =
    MatchOption found (NoneOccupied at from to × (after + from ≡ before + to))
    (λ occupied. IsFirst at from to occupied × (after + from ≡ before + occupied.next + 1))

-- how many words of marks tell of so many cells side by side from one on: one for each page
abbrev pub words_over : (first count : ℕ) → ℕ
words_over first zero = 0
words_over first (suc more) = (first % 64 + more) / 64 + 1

-- of so many of these cells, which stand side by side from one on, the first one was found that is not empty, if one is not; and each
-- word of marks that was looked at is one read
abbrev pub Marked : (ℕ → Cell) → (first count before : ℕ) → Option Occupied → (after : ℕ) → Type 0
Marked at first count before found after =
    MatchOption found (NoneOccupied at 0 count × (after ≡ before + words_over first count))
    (λ occupied. IsFirst at 0 count occupied × (after ≡ before + words_over first (occupied.next + 1)))

-- the table has a page of the cells for that cell of a slot
pub record HasPage (cells : List Cell) (page_table : List ℕ) (slot i : ℕ) : Type 0 where
  pub table : slot * 4096 + i / 64 < length page_table
  pub page : slice_index page_table (slot * 4096 + i / 64) * 64 + 64 ≤ length cells
