-- Rows that stand for a cell, and tables that have all that is found.
use Rattle.std.specs.Prelude.{◌≡◌, ℕ, ◌<◌, ℤ, List, Contains}
use Rattle.sem_query.specs.Meaning.{by_column}

-- at each column that a row may have, the row has this value
abbrev pub HasColumns : (ℕ → ℤ) → List ℤ → Type 0
HasColumns v row = (column : ℕ) → column < 8 → by_column row column ≡ v column

-- the table has each of these tuples
abbrev pub HasEach : List (List ℤ) → List (List ℤ) → Type 0
HasEach table tuples = (t : List ℤ) → Contains tuples t → Contains table t
