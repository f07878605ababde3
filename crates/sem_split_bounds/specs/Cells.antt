-- Cells that keep one integer each do not tell the answers of every query that needs few states, however the rows are led to them.
use Rattle.std.specs.Prelude.{◌≡◌, ◌≢◌, ℕ, ◌≤◌, ℤ, ◌+ℤ◌, List, filter, nat_eq, nat_abs, int_lt}
use Rattle.sem_query.specs.declared.plan.Kind.{Kind}
use Rattle.sem_query.specs.Query.{QueryValue}
use Rattle.sem_query.specs.Meaning.{Arrival, rows, by_column, new_answers}
use Rattle.sem_query.specs.Cells.{content}
use Rattle.sem_lower_bounds.specs.Unlike.{unlike_both}

-- Rows are led to cells by how their columns stand to each other and to integers, with differences of at most k: so are they by signs, by conditions
-- on one stream and by the values of dims. Several parts at once lead them to a cell for each choice of theirs.
abbrev pub IsCoarse : ℕ → ((ℕ → ℤ) → ℕ) → Type 0
IsCoarse k leads =
    (v w : ℕ → ℤ)
    → ((i j : ℕ) (c : ℤ) → nat_abs c ≤ k → int_lt (v i) (v j +ℤ c) ≡ int_lt (w i) (w j +ℤ c))
    → ((i : ℕ) (c : ℤ) → nat_abs c ≤ k → int_lt (v i) c ≡ int_lt (w i) c)
    → leads v ≡ leads w

-- the rows of a stream that are led to a cell
abbrev pub led_rows : ((ℕ → ℤ) → ℕ) → List Arrival → ℕ → ℕ → List (List ℤ)
led_rows leads history stream cell = filter (λ row. nat_eq (leads (by_column row)) cell) (rows history stream)

-- after both histories each cell of each stream keeps the same, whatever its kind
abbrev pub AreCellsAlike : ((ℕ → ℤ) → ℕ) → List Arrival → List Arrival → Type 0
AreCellsAlike leads g h =
    (stream cell : ℕ) (kind : Kind) → content kind (led_rows leads g stream cell) ≡ content kind (led_rows leads h stream cell)

-- two histories after which all cells keep the same, and a row that is answered differently
pub record CellsMislead (q : QueryValue) (leads : (ℕ → ℤ) → ℕ) : Type 0 where
  pub one : List Arrival
  pub other : List Arrival
  pub next : Arrival
  pub alike : AreCellsAlike leads one other
  pub differ : new_answers q one next ≢ new_answers q other next

-- however rows are led to cells, these mislead about a query for which few states are enough
abbrev pub CellsDoNotTell : Type 0
CellsDoNotTell = (k : ℕ) (leads : (ℕ → ℤ) → ℕ) → IsCoarse k leads → CellsMislead unlike_both leads
