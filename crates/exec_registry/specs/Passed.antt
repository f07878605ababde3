-- Rows that are counted as given to each live query, and nothing else.
use Rattle.std.specs.Prelude.{◌≡◌, ℕ, ℤ, ◌+◌, ◌<◌, ◌^◌, List, [], map, All}
use Rattle.sem_query.specs.Meaning.{Arrival}
use Rattle.exec_query.specs.Executor.{arrival, with_given}
use Rattle.exec_registry.specs.Concerned.{SparesStream}
use Rattle.exec_registry.specs.Live.{Live, LiveQuery, answers_of, named, with_row}
use Rattle.exec_registry.specs.Registry.{RegistryValue, IsQuiet, IsSound, KeepsToEach, StandsFor}

-- a live query after so many rows more, with nothing else changed
abbrev pub given_more : ℕ → Live → Live
given_more n l = named l.name (with_given l.executor (l.executor.given + n) l.executor.table.entries)

-- so each of a registry
abbrev pub passed : ℕ → RegistryValue → RegistryValue
passed n r = record { pool = r.pool; live = map (given_more n) r.live }

-- a registry took a row that no live query answers, and nothing waits
pub record PassedRow (old : RegistryValue) (r : Arrival) (new : RegistryValue) : Type 0 where
  pub quiet : IsQuiet new
  pub stands : (queries : List LiveQuery) → StandsFor old queries → StandsFor new (map (with_row r) queries)
  pub none : (queries : List LiveQuery) → StandsFor old queries → All (λ (q : LiveQuery). answers_of r q ≡ []) queries

-- where nothing waits, a row of a stream of which each live query refuses each row is taken by counting it
abbrev pub SparedRowsPass : Type 0
SparedRowsPass =
    (r : RegistryValue) (stream : ℕ) (values : List ℤ) → IsSound r.pool r.live → All (λ (l : Live). l.executor.given < 2 ^ 40) r.live → IsQuiet r
    → SparesStream stream r.live → KeepsToEach r.live (arrival stream values) → PassedRow r (arrival stream values) (passed 1 r)
