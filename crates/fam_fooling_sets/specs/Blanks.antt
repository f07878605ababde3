-- Rows of which nothing is asked, one for each place of FROM, and what a family keeps of them.
use Rattle.std.specs.Prelude.{◌≡◌, ℕ, ◌<◌, ◌⊎◌, List, [], length, All, Contains, FitsSigned, IsTrue, ℤ}
use Rattle.std.specs.Int.{w64}
use Rattle.std.specs.List.{slice_index_or}
use Rattle.sem_query.specs.declared.atom.Attr.{Attr}
use Rattle.sem_query.specs.declared.atom.Domain.{Domain}
use Rattle.sem_query.specs.Query.{QueryValue, attrs_of}
use Rattle.sem_query.specs.Assignment.{lies_in}
use Rattle.sem_query.specs.Meaning.{by_column}

-- the query reads the column
abbrev pub IsRead : QueryValue → Attr → Type 0
IsRead q a = Contains (attrs_of q.atoms) a ⊎ Contains q.select a

-- a row for each place of FROM, with a value for each column that the query reads, in the domains of the query and in 64 bits
pub record AreBlanks (q : QueryValue) (blanks : List (List ℤ)) : Type 0 where
  pub many : length blanks ≡ length q.from
  pub wide : (a : Attr) → IsRead q a → a.column < length (slice_index_or blanks a.stream [])
  pub keeps : (d : Domain) → Contains q.domains d → IsTrue (lies_in d (by_column (slice_index_or blanks d.attr.stream []) d.attr.column))
  pub fits : (place : ℕ) → place < length q.from → All (FitsSigned w64) (slice_index_or blanks place [])

-- the row is as long as the blank one of its place, keeps to the domains there and to 64 bits, and has its values in the columns that the query does not
-- read
pub record IsLike (q : QueryValue) (blanks : List (List ℤ)) (place : ℕ) (row : List ℤ) : Type 0 where
  pub wide : length row ≡ length (slice_index_or blanks place [])
  pub keeps : (d : Domain) → Contains q.domains d → d.attr.stream ≡ place → IsTrue (lies_in d (by_column row d.attr.column))
  pub fits : All (FitsSigned w64) row
  pub blank : (column : ℕ) → column < length row → ¬ IsRead q (record { stream = place; column = column }) → by_column row column ≡ by_column (slice_index_or blanks place []) column
