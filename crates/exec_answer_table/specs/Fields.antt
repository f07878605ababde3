-- What is true of the fields of an answer table: rows in order of arrival, their counts, their numbers in order of
-- tuples, and the numbers of those that wait.
use Rattle.std.specs.Prelude.{◌≡◌, ℕ, ◌*◌, ◌<◌, ◌≤◌, ℤ, List, length, map, filter, slice_index}
use Rattle.exec_answer_table.specs.Rows.{row_of, counts_for}
use Rattle.exec_answer_table.specs.Entries.{Entry, entry_of, Ascends}

-- the entry whose row has number k
abbrev pub entry_numbered : List ℤ → List ℕ → ℕ → ℕ → Entry
entry_numbered values counts width k = entry_of (row_of values width k) (slice_index counts k)

-- the entries of rows with these numbers
abbrev pub entries_of : List ℤ → List ℕ → ℕ → List ℕ → List Entry
entries_of values counts width numbers = map (entry_numbered values counts width) numbers

-- the rows are whole, each has its count and its number in the order of tuples, and those that wait are listed
pub record IsTable (values : List ℤ) (counts order due : List ℕ) (width capacity : ℕ) : Type 0 where
  pub width_low : 0 < width
  pub width_high : width ≤ 8
  pub rows : length values ≡ length counts * width
  pub numbers : length order ≡ length counts
  pub narrow : capacity < 4294967296
  pub few : length counts ≤ capacity
  pub inside : (i : ℕ) → i < length order → slice_index order i < length counts
  pub ascends : Ascends (entries_of values counts width order)
  pub waiting : due ≡ filter (counts_for counts) order

-- room for all entries was taken
pub record HasRoom (width capacity value_room count_room order_room due_room : ℕ) : Type 0 where
  pub values : capacity * width ≤ value_room
  pub counts : capacity ≤ count_room
  pub order : capacity ≤ order_room
  pub due : capacity ≤ due_room
