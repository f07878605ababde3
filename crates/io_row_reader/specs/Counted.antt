-- Rows of which the values are not formed.
use Rattle.std.specs.Prelude.{◌≡◌, ℕ, ℤ, List, [], ◌∷◌, ◌++◌, length, IsTrue, Option}
use Rattle.sql_catalog.specs.Streams.{Shape}
use Rattle.io_row_reader.specs.Ahead.{AddsAt, AreFields, IsRowAhead}
use Rattle.io_row_reader.specs.Open.{is_open}

-- an integer stands between two places of a text, whatever row its value is added to
pub record IsSomeInteger (text : List ℕ) (start end : ℕ) : Type 0 where
  pub value : ℤ
  pub adds : (row : List ℤ) → AddsAt text start end row (row ++ value ∷ [])

-- so many integers with a comma between each and the next stand between two places of a text
pub record HasFields (text : List ℕ) (start end width : ℕ) : Type 0 where
  pub values : List ℤ
  pub count : length values ≡ width
  pub are : AreFields text start end values

-- the first line of a text has this length, and is a row of this stream
pub record IsSomeRowOf (streams : List Shape) (text : List ℕ) (stream len : ℕ) : Type 0 where
  pub values : List ℤ
  pub row : IsRowAhead streams text stream len values

-- the first line of a text has this length, and is a row of an open stream
pub record IsSomeRowAhead (streams : List Shape) (opened : Option (List ℕ)) (text : List ℕ) (len : ℕ) : Type 0 where
  pub stream : ℕ
  pub values : List ℤ
  pub row : IsRowAhead streams text stream len values
  pub opens : IsTrue (is_open opened stream)
