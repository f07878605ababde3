-- What is true of each live query that a registry stands for: of its query and plan, and of what is kept of it.
use Rattle.std.specs.Prelude.{◌≡◌, ℕ, ◌<◌, ◌≤◌, true, ℤ, List, length, slice_index_or, Some, Contains, All, AllPairs}
use Rattle.sem_query.specs.declared.cell.Cell.{Cell}
use Rattle.sem_query.specs.declared.plan.Kind.{Kind}
use Rattle.sem_query.specs.Query.{IsWithinLimits}
use Rattle.sem_query.specs.Domains.{RowsKeep}
use Rattle.sem_query.specs.Tuples.{is_before}
use Rattle.sem_query.specs.Ranges.{all_tuples}
use Rattle.sem_query.specs.Cells.{FitsKind}
use Rattle.sem_query.specs.Numbers.{parts_of}
use Rattle.sem_query.specs.Sharing.{Box, sizes_in}
use Rattle.exec_query.specs.Executor.{IsAccepted, most_answers}
use Rattle.exec_query.specs.Standing.{CountsUpto}
use Rattle.exec_restore.specs.Loadable.{kind_at}
use Rattle.exec_registry.specs.Live.{LiveQuery, boxes_of, base_in}
use Rattle.exec_registry.specs.Registry.{RegistryValue, IsSound, StandsFor, GivenUpto}

-- the cell of a number is empty or of the kind that the boxes have there, and counts at most the rows given
pub record IsCellOf (list : List Box) (given i : ℕ) (cell : Cell) : Type 0 where
  pub kind : Kind
  pub there : kind_at list i ≡ Some kind
  pub fits : FitsKind kind cell
  pub counts : CountsUpto given cell

-- the tuples ascend, each once
abbrev pub AreAscending : List (List ℤ) → Type 0
AreAscending tuples = AllPairs (λ t u. is_before t u ≡ true) tuples

-- the query is within the limits, and its plan is accepted; the cells of its base, and those that are kept, are as many as its boxes have,
-- each of its kind; and with DISTINCT the printed tuples ascend, are no more than announced, and lie in the ranges of some part
pub record IsSoundLive (q : LiveQuery) : Type 0 where
  pub limits : IsWithinLimits q.query
  pub accepted : IsAccepted q.shared q.query q.plan
  pub rows : RowsKeep q.query q.history
  pub size : length q.base.cells ≡ sizes_in (boxes_of q)
  pub whole : length (base_in q).cells ≡ sizes_in (boxes_of q)
  pub cells : (i : ℕ) (d : Cell) → i < sizes_in (boxes_of q) → IsCellOf (boxes_of q) (base_in q).given i (slice_index_or (base_in q).cells i d)
  pub ascends : q.query.distinct ≡ true → AreAscending (base_in q).table
  pub few : q.query.distinct ≡ true → length (base_in q).table ≤ most_answers q.plan
  pub tuples : q.query.distinct ≡ true → All (Contains (all_tuples q.query (parts_of q.plan))) (base_in q).table

-- each live query that a registry stands for is such a one
abbrev pub LiveQueriesAreSound : Type 0
LiveQueriesAreSound = (r : RegistryValue) (queries : List LiveQuery) → IsSound r.pool r.live → StandsFor r queries → All IsSoundLive queries

-- and of none were more rows given than to what the registry keeps
abbrev pub LiveQueriesAreGiven : Type 0
LiveQueriesAreGiven =
    (n : ℕ) (r : RegistryValue) (queries : List LiveQuery) → GivenUpto n r → StandsFor r queries → All (λ (q : LiveQuery). (base_in q).given ≤ n) queries
