-- The text of the rows of a family.
use Rattle.std.specs.Prelude.{ℕ, suc, List, [], ◌∷◌, ◌++◌, codes, decimal, ℤ}
use Rattle.std.specs.List.{flat_map}
use Rattle.arrayvec.specs.ArrayVec.{ArrayVec as Items}
use Rattle.sql_text.specs.Tuple.{tuple_line}
use Rattle.sem_query.specs.Meaning.{Arrival}
use Rattle.sem_query.specs.Cells.{upto}
use Rattle.sql_catalog.specs.Streams.{Shape, shape_at}
use Rattle.fam_fooling_sets.specs.Family.{FamilyValue, row_at, asking_at}

-- a word, a number and a row
abbrev pub row_line : List ℕ → ℕ → List ℕ → List ℤ → List ℕ
row_line word number name values = (word ++ 32 ∷ decimal number ++ 32 ∷ []) ++ tuple_line name values

-- the row of a number, by its stream
abbrev pub own_text : List Shape → ℕ → ℕ → List ℤ → List ℕ
own_text streams stream number values = row_line (codes "m") number (shape_at streams stream).name values

-- a row that asks for a number
abbrev pub asking_text : List Shape → ℕ → Arrival → List ℕ
asking_text streams number r = row_line (codes "g") number (shape_at streams r.stream).name r.values

-- the same of a row with the number of its stream
abbrev pub asked_text : List Shape → ℕ → ℕ × Items ℤ → List ℕ
asked_text streams number r = row_line (codes "g") number (shape_at streams r.0).name r.1.items

-- the row of a number, and behind it the rows that ask for it; lines count numbers from 1
abbrev pub member_text : List Shape → FamilyValue → ℕ → List ℕ
member_text streams f i = own_text streams f.stream (suc i) (row_at f i) ++ flat_map (asking_text streams (suc i)) (asking_at f i)

-- the rows of so many numbers of a family
abbrev pub rows_text : List Shape → ℕ → FamilyValue → List ℕ
rows_text streams n f = flat_map (member_text streams f) (upto (λ i. i) n)
