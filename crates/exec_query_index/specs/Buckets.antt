-- Which boxes a row may lie in, told by the buckets of its columns.
use Rattle.std.specs.Prelude.{◌≡◌, ℕ, ◌+◌, ◌/◌, ◌%◌, ◌^◌, ◌<◌, ◌≤◌, min, ℤ, pos, neg_ℤ, ◌≤ℤ◌, ◌-ℤ◌, int_lt, nat_abs, List, [], ◌∷◌, length, slice_get, slice_index_or, Option, Some, bit_and, if◌then◌else◌}
use Rattle.std.specs.Int.{bit_at}
use Rattle.exec_query_index.specs.declared.boxes.QueryBox.{QueryBox}
use Rattle.exec_query_index.specs.declared.column.Grid.{Grid}
use Rattle.exec_query_index.specs.declared.column.Column.{Column}
use Rattle.exec_query_index.specs.declared.candidates.Candidates.{Candidates}
use Rattle.exec_query_index.specs.Boxes.{unbounded}

-- the bucket of an integer: the first is that of all below the low end, the others are equally wide, and the last has all that is left
abbrev pub bucket : Grid → ℤ → ℕ
bucket grid x = if int_lt x grid.low then 0 else 1 + min 254 (nat_abs (x -ℤ grid.low) / 2 ^ (grid.shift % 64))

-- the word of the bucket of a row's value
abbrev pub word_at : Column → List ℤ → ℕ
word_at c row = slice_index_or c.words (bucket c.grid (slice_index_or row c.column (pos 0))) 0

-- an integer of 64 bits
pub record IsMachine (x : ℤ) : Type 0 where
  pub low : neg_ℤ (pos 9223372036854775808) ≤ℤ x
  pub high : x ≤ℤ pos 9223372036854775807

-- what is left of a word by all columns
abbrev pub narrowed : ℕ → List ℤ → List Column → ℕ
narrowed word row [] = word
narrowed word row (c ∷ columns) = narrowed (bit_and word (word_at c row)) row columns

-- each column, in which the row's value is an integer of 64 bits, has a bit set in the word of the row's bucket
abbrev pub AreMarked : ℕ → List ℤ → List Column → Type 0
AreMarked k row columns = (i : ℕ) (c : Column) → slice_get columns i ≡ Some c → IsMachine (slice_index_or row c.column (pos 0)) → bit_at (word_at c row) k ≡ 1

-- the candidates for a row
abbrev pub candidates_of : Candidates → List ℤ → ℕ
candidates_of c row = narrowed c.named row c.columns.items

-- each box of the list has its bit in each bucket that its interval meets
abbrev pub MarksBuckets : List (Option QueryBox) → ℕ → Grid → List ℕ → Type 0
MarksBuckets boxes column grid words =
    (k : ℕ) (box : QueryBox) → slice_get boxes k ≡ Some (Some box) → (j : ℕ) → j < 256
    → bucket grid (slice_index_or box.columns column unbounded).least ≤ j → j ≤ bucket grid (slice_index_or box.columns column unbounded).greatest
    → bit_at (slice_index_or words j 0) k ≡ 1

-- the column is that of these boxes
pub record IsColumn (boxes : List (Option QueryBox)) (c : Column) : Type 0 where
  pub few : c.column < 8
  pub marks : MarksBuckets boxes c.column c.grid c.words

-- so are these columns
abbrev pub AreColumns : List (Option QueryBox) → List Column → Type 0
AreColumns boxes columns = (i : ℕ) (column : Column) → slice_get columns i ≡ Some column → IsColumn boxes column

-- each box has its bit, and no other bit is set
pub record AreNamed (boxes : List (Option QueryBox)) (word : ℕ) : Type 0 where
  pub only : (k : ℕ) → bit_at word k ≡ 1 → k < length boxes
  pub all : (k : ℕ) (box : QueryBox) → slice_get boxes k ≡ Some (Some box) → bit_at word k ≡ 1

-- the candidates are those of these boxes
pub record AreFor (boxes : List (Option QueryBox)) (c : Candidates) : Type 0 where
  pub named : AreNamed boxes c.named
  pub columns : AreColumns boxes c.columns.items
