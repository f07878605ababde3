-- What clauses see of the rows of a family.
use Rattle.std.specs.Prelude.{ℕ, List, map, ℤ}
use Rattle.arrayvec.specs.ArrayVec.{ArrayVec as Items}
use Rattle.sem_query.specs.Meaning.{Arrival}

-- the rows, as lists
abbrev pub rows_in : List (Items ℤ) → List (List ℤ)
rows_in rows = map (λ (row : Items ℤ). row.items) rows

-- rows with the numbers of their streams, as they arrive
abbrev pub arrivals : List (ℕ × Items ℤ) → List Arrival
arrivals asked = map (λ (r : ℕ × Items ℤ). record { stream = r.0; values = r.1.items }) asked

-- what asks for each row
abbrev pub asking_in : List (Items (ℕ × Items ℤ)) → List (List Arrival)
asking_in asking = map (λ (a : Items (ℕ × Items ℤ)). arrivals a.items) asking
