-- The streams of a catalog: their names and columns.
use Rattle.std.specs.Prelude.{ℕ, ◌≤◌, ◌<◌, ℤ, ◌≤ℤ◌, int_lt, Bool, true, not, ◌&&◌, ◌||◌, IsTrue, if◌then◌else◌, List, [], ◌∷◌, ◌++◌, length, map, nat_lt, Option, Some, None, Result, Ok, Err}
use Rattle.std.specs.List.{All, list_any, position, slice_index_or}
use Rattle.std.specs.Str.{bytes_eq}
use Rattle.std.specs.Cmp.Lexicographic.{pointwise}
use Rattle.sql_text.specs.Name.{is_name}
use Rattle.sem_query.specs.Query.{IsShort}
use Rattle.sem_query.specs.Meaning.{by_column}
use Rattle.sql_catalog.specs.declared.column.ColumnDef.{ColumnDef}
use Rattle.sql_catalog.specs.declared.stream_error.StreamError.{StreamError}
use Rattle.sql_catalog.specs.declared.stream_error.StreamError.TheVariants.{Duplicate, TooMany}

-- a stream: its name and its columns, each with its name and, where it has one, its domain
pub record Shape : Type 0 where
  pub name : List ℕ
  pub columns : List ColumnDef

-- the names of columns
abbrev pub column_names : List ColumnDef → List (List ℕ)
column_names columns = map (λ c. c.name) columns

-- the streams that entries of a name and columns are
abbrev pub shapes_of : List (List ℕ × List ColumnDef) → List Shape
shapes_of entries = map (λ e. record { name = e.0; columns = e.1 }) entries

-- the text is a name
abbrev pub IsName : List ℕ → Type 0
IsName text = IsTrue (is_name text)

-- whether all names differ
abbrev pub all_differ : List (List ℕ) → Bool
all_differ [] = true
all_differ (x ∷ xs) = not (list_any (bytes_eq x) xs) && all_differ xs

-- two integers that may be written, the first at most the second
pub record AreEnds (low high : ℤ) : Type 0 where
  pub short_low : IsShort low
  pub short_high : IsShort high
  pub some : low ≤ℤ high

-- where there is a domain, it has ends
abbrev pub HasEnds : Option (ℤ × ℤ) → Type 0
HasEnds None = Unit {0}
HasEnds (Some ends) = AreEnds ends.0 ends.1

-- a stream has a name, and 1 to 8 columns with different names; each domain has ends
pub record IsShape (s : Shape) : Type 0 where
  pub name : IsName s.name
  pub names : All (λ c. IsName c.name) s.columns
  pub domains : All (λ c. HasEnds c.domain) s.columns
  pub some : 0 < length s.columns
  pub few : length s.columns ≤ 8
  pub differ : IsTrue (all_differ (column_names s.columns))

-- at most 16 streams with different names
pub record IsCatalog (streams : List Shape) : Type 0 where
  pub few : length streams ≤ 16
  pub shapes : All IsShape streams
  pub differ : IsTrue (all_differ (map (λ (s : Shape). s.name) streams))

-- the number of the stream of this name, which is its place among all streams
abbrev pub stream_number : List Shape → List ℕ → Option ℕ
stream_number streams name = position (λ s. bytes_eq s.name name) streams

-- the place of the column of this name
abbrev pub column_place : List ColumnDef → List ℕ → Option ℕ
column_place columns name = position (λ c. bytes_eq c.name name) columns

-- the stream of this number
abbrev pub shape_at : List Shape → ℕ → Shape
shape_at streams number = slice_index_or streams number (record { name = []; columns = [] })

-- the column of no name and no domain
abbrev pub no_column : ColumnDef
no_column = record { name = []; domain = None }

-- the name of the column at this place
abbrev pub column_at : List ColumnDef → ℕ → List ℕ
column_at columns place = (slice_index_or columns place no_column).name

-- the domain of the column at a place of a stream, where it has one
abbrev pub domain_at : List Shape → ℕ → ℕ → Option (ℤ × ℤ)
domain_at streams stream column = (slice_index_or (shape_at streams stream).columns column no_column).domain

-- whether an integer lies in a domain, where there is one
abbrev pub lies_within : Option (ℤ × ℤ) → ℤ → Bool
lies_within None z = true
lies_within (Some ends) z = not (int_lt z ends.0) && not (int_lt ends.1 z)

-- whether values are as many as the columns, and each lies in the domain of its column
abbrev pub lie_within : List ColumnDef → List ℤ → Bool
lie_within columns values = pointwise (λ c v. lies_within c.domain v) columns values

-- the values of a row of a stream lie in the domains of its columns
abbrev pub KeepsDomains : List Shape → ℕ → List ℤ → Type 0
KeepsDomains streams stream values = (column : ℕ) → IsTrue (lies_within (domain_at streams stream column) (by_column values column))

-- whether a stream of this name is there, or two columns have one name
abbrev pub is_duplicate : List Shape → Shape → Bool
is_duplicate streams shape = list_any (λ s. bytes_eq s.name shape.name) streams || not (all_differ (column_names shape.columns))

-- what adding a stream gives: its number, which is how many streams were before it
abbrev pub added : List Shape → Shape → Result ℕ StreamError
added streams shape = if is_duplicate streams shape then Err Duplicate else (if nat_lt (length streams) 16 then Ok (length streams) else Err TooMany)

-- the streams after one was added; they are as before where it is refused
abbrev pub with_stream : List Shape → Shape → List Shape
with_stream streams shape = if is_duplicate streams shape then streams else (if nat_lt (length streams) 16 then streams ++ shape ∷ [] else streams)
