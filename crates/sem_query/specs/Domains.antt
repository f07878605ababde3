-- Which rows keep to the domains of a query.
use Rattle.std.specs.Prelude.{◌≡◌, ℕ, ◌<◌, ℤ, Bool, not, ◌||◌, List, length, nat_eq, IsTrue, All}
use Rattle.std.specs.List.{list_all, slice_index_or}
use Rattle.sem_query.specs.Query.{QueryValue}
use Rattle.sem_query.specs.Assignment.{lies_in}
use Rattle.sem_query.specs.Meaning.{Arrival, by_column}

-- whether a row at a place of FROM, given by its values by column, has the value of each column in its domain
abbrev pub keeps_at : QueryValue → ℕ → (ℕ → ℤ) → Bool
keeps_at q place v = list_all (λ d. not (nat_eq d.attr.stream place) || lies_in d (v d.attr.column)) q.domains

-- the row does, where FROM names its stream
abbrev pub RowKeeps : QueryValue → Arrival → Type 0
RowKeeps q r = (place : ℕ) → place < length q.from → slice_index_or q.from place 0 ≡ r.stream → IsTrue (keeps_at q place (by_column r.values))

-- each row of a history does
abbrev pub RowsKeep : QueryValue → List Arrival → Type 0
RowsKeep q history = All (RowKeeps q) history
