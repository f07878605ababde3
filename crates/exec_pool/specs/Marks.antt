-- Pages of 64 cells, each with a word that has a bit for each cell that is not empty.
use Rattle.std.specs.Prelude.{◌≡◌, ℕ, ◌*◌, ◌/◌, ◌%◌, List, length, slice_index, slice_index_or}
use Rattle.std.specs.Int.{bit_at}
use Rattle.sem_query.specs.declared.cell.Cell.{Cell}
use Rattle.sem_query.specs.declared.cell.Cell.TheVariants.{Empty, Count, Present, Extreme}

-- the cells of the pages that there are, and for how many pages there is room
pub record CellsValue : Type 0 where
  pub cells : List Cell
  pub room : ℕ

-- 0 for an empty cell and 1 for any other
abbrev pub mark : Cell → ℕ
mark Empty = 0
mark (Count rows) = 1
mark Present = 1
mark (Extreme value) = 1

-- there is a word for each page, and each cell's bit in the word of its page is its mark
pub record AreMarked (cells : List Cell) (marks : List ℕ) : Type 0 where
  pub pages : length cells ≡ length marks * 64
  pub told : (place : ℕ) → bit_at (slice_index marks (place / 64)) (place % 64) ≡ mark (slice_index_or cells place Empty)
