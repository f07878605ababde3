-- What the synopsis tells of the answers to come.
use Rattle.std.specs.Prelude.{◌≡◌, ℕ, ◌<◌, ℤ, ◌≤ℤ◌, List, [], ◌++◌, length, IsTrue, IsFalse, Contains, All}
use Rattle.std.specs.List.{slice_index_or}
use Rattle.std.specs.declared.option.Option.TheVariants.{None}
use Rattle.sem_query.specs.declared.atom.Attr.{Attr}
use Rattle.sem_query.specs.declared.cell.Cell.{Cell}
use Rattle.sem_query.specs.declared.plan.Kind.{Kind}
use Rattle.sem_query.specs.declared.plan.PartPlan.{PartPlan}
use Rattle.sem_query.specs.Query.{QueryValue, IsWithinLimits, is_filter}
use Rattle.sem_query.specs.Meaning.{Arrival, rows, by_column, new_answers}
use Rattle.sem_query.specs.Domains.{RowKeeps, RowsKeep}
use Rattle.sem_query.specs.Violation.{IsViolation}
use Rattle.sem_query.specs.Serving.{IsServing}
use Rattle.sem_query.specs.Plan.{ArePartPlans, IsPlan, IsPlanned, IsWanted, stream_at}
use Rattle.sem_query.specs.Cells.{content, cell_of, rows_of_cell, synopsis, printed}
use Rattle.sem_query.specs.Combinations.{Choice, cell_choice, Reading, read_from}
use Rattle.sem_query.specs.Future.{future}

-- a reading gives, at each place of each box of the plan, the cell of the history
abbrev pub IsReadingOf : QueryValue → List PartPlan → List Arrival → Reading → Type 0
IsReadingOf q plan history read =
    (part : PartPlan) → Contains plan part → (place i : ℕ) → place < length q.from → i < (stream_at part place).size
    → read part place i ≡ cell_of q history part place i

-- parts that serve any query, wherever their boxes begin: a filter keeps nothing
pub data IsPlannedAnywhere (q : QueryValue) (plan : List PartPlan) : Type 0 where
  nothing : IsTrue (is_filter q) → plan ≡ [] → IsPlannedAnywhere q plan
  anywhere : IsFalse (is_filter q) → IsServing q plan → IsPlannedAnywhere q plan

-- where the rows keep to the domains, the cells of a history, however they are laid out, and the printed tuples tell the answers to the next row
abbrev pub ReadingsSuffice : Type 0
ReadingsSuffice =
    (q : QueryValue) (plan : List PartPlan) → IsWithinLimits q → IsPlannedAnywhere q plan
    → (history : List Arrival) → RowsKeep q history → (read : Reading) → IsReadingOf q plan history read
    → (r : Arrival) → RowKeeps q r → future q plan read (printed q history) r ≡ new_answers q history r

-- the synopsis, read by the bases of the plan, gives the cells of the history
abbrev pub SynopsisIsRead : Type 0
SynopsisIsRead =
    (q : QueryValue) (plan : List PartPlan) → IsPlan q plan → (history : List Arrival)
    → IsReadingOf q plan history (read_from (synopsis q plan history))

-- where no condition is violated and the rows keep to the domains, the synopsis and the printed tuples tell the answers to the next row
abbrev pub SynopsisSuffices : Type 0
SynopsisSuffices =
    (q : QueryValue) (plan : List PartPlan) → IsWithinLimits q → IsPlanned q plan → IsViolation q None
    → (history : List Arrival) (r : Arrival) → RowsKeep q history → RowKeeps q r
    → future q plan (read_from (synopsis q plan history)) (printed q history) r ≡ new_answers q history r

-- two histories with equal synopses and equal printed tuples are answered alike for good, where all rows keep to the domains
abbrev pub FutureIsDetermined : Type 0
FutureIsDetermined =
    (q : QueryValue) (plan : List PartPlan) → IsWithinLimits q → IsPlanned q plan → IsViolation q None
    → (g h : List Arrival) → RowsKeep q g → RowsKeep q h → synopsis q plan g ≡ synopsis q plan h → printed q g ≡ printed q h
    → (later : List Arrival) (r : Arrival) → RowsKeep q later → RowKeeps q r → new_answers q (g ++ later) r ≡ new_answers q (h ++ later) r

-- some row has the value at the column, and no row is below it
pub record IsLeastOf (column : ℕ) (rows : List (List ℤ)) (z : ℤ) : Type 0 where
  pub row : List ℤ
  pub among : Contains rows row
  pub reached : by_column row column ≡ z
  pub above : All (λ other. z ≤ℤ by_column other column) rows

-- some row has the value at the column, and no row is above it
pub record IsGreatestOf (column : ℕ) (rows : List (List ℤ)) (z : ℤ) : Type 0 where
  pub row : List ℤ
  pub among : Contains rows row
  pub reached : by_column row column ≡ z
  pub below : All (λ other. by_column other column ≤ℤ z) rows

-- the extreme that a cell keeps is the least, or the greatest, value of its rows
abbrev pub ExtremesAreExact : Type 0
ExtremesAreExact =
    (a : Attr) (rows : List (List ℤ)) (z : ℤ)
    → (content (Kind.Least a) rows ≡ Cell.Extreme z → IsLeastOf a.column rows z)
    × (content (Kind.Greatest a) rows ≡ Cell.Extreme z → IsGreatestOf a.column rows z)

-- some row of a cell has, in every column that answers read, the value that the cell gives it
abbrev pub ExtremesAreAttained : Type 0
ExtremesAreAttained =
    (q : QueryValue) (plan : List PartPlan) → IsWithinLimits q → IsFalse (is_filter q) → ArePartPlans q plan → IsViolation q None
    → (part : PartPlan) → Contains plan part → (history : List Arrival) (place i : ℕ) → place < length q.from
    → (c : Choice) → Contains (cell_choice q part place i (cell_of q history part place i)) c
    → (row : List ℤ) × Contains (rows_of_cell q part place i (rows history (slice_index_or q.from place 0))) row
    × ((a : Attr) → a.stream ≡ place → IsWanted q part.signs.items a → c.values a.column ≡ by_column row a.column)
