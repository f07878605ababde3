-- Reordering a history: each stream keeps its rows.
use Rattle.std.specs.Prelude.{ℕ, List, IsPermutation}
use Rattle.sem_query.specs.Meaning.{Arrival, rows}

-- each stream has the same rows in both histories, in any order
abbrev pub Reorders : List Arrival → List Arrival → Type 0
Reorders g h = (stream : ℕ) → IsPermutation (rows g stream) (rows h stream)
