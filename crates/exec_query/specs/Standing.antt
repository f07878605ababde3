-- What an executor stands for, and what it needs of its cells to take a row.
use Rattle.std.specs.Prelude.{◌≡◌, ℕ, ◌+◌, ◌-◌, ◌*◌, ◌<◌, ◌≤◌, ◌^◌, min, true, ℤ, List, [], ◌∷◌, ◌++◌, length, replicate, Contains}
use Rattle.exec_answer_table.specs.Entries.{waiting_of, Ascends}
use Rattle.sem_laws.specs.Growth.{occurs}
use Rattle.sem_query.specs.declared.cell.Cell.{Cell}
use Rattle.sem_query.specs.declared.plan.PartPlan.{PartPlan}
use Rattle.sem_query.specs.Meaning.{Arrival, new_answers}
use Rattle.sem_query.specs.Domains.{RowsKeep}
use Rattle.sem_query.specs.Plan.{stream_at}
use Rattle.sem_query.specs.Cells.{printed}
use Rattle.sem_query.specs.Combinations.{read_from}
use Rattle.sem_query.specs.Future.{future}
use Rattle.sem_query.specs.Merge.{merged_table}
use Rattle.sem_query.specs.Numbers.{pages_of}
use Rattle.sem_query.specs.Sharing.{sizes_in, synopsis_in, merge_in}
use Rattle.exec_pool.specs.Extents.{PoolValue, with_cells, IsLive}
use Rattle.exec_synopsis.specs.Premises.{AreFitting}
use Rattle.exec_saturation.specs.Known.{AreSaturated}
use Rattle.exec_query.specs.Executor.{ExecutorValue, parts_in, list_in, cells_in, rest_in, tuples_in, waiting_in, with_given, with_saturation, most_answers}

-- the executor stands for a history of its query: the cells are its synopsis, and with DISTINCT the tuples those printed
pub record StandsFor (e : ExecutorValue) (pool : PoolValue) (history : List Arrival) : Type 0 where
  pub live : IsLive pool e.extent
  pub cells : cells_in e pool ≡ synopsis_in e.query (list_in e) history
  pub rest : rest_in e pool ≡ replicate (64 * e.extent.pages - sizes_in (list_in e)) Cell.Empty
  pub given : e.given ≡ length history
  pub rows : RowsKeep e.query history
  pub tuples : e.query.distinct ≡ true → tuples_in e ≡ printed e.query history

-- a cell counts at most so many rows
abbrev pub CountsUpto : ℕ → Cell → Type 0
CountsUpto most Cell.Empty = Unit {0}
CountsUpto most (Cell.Count n) = n ≤ most
CountsUpto most Cell.Present = Unit {0}
CountsUpto most (Cell.Extreme z) = Unit {0}

-- the extent is live, each cell is of its kind and counts at most the rows that were given, and with DISTINCT each cell of which it is known
-- that it is saturated is
pub record AreKept (e : ExecutorValue) (pool : PoolValue) : Type 0 where
  pub live : IsLive pool e.extent
  pub fitting : (part : PartPlan) → Contains (parts_in e) part → AreFitting part (read_from (cells_in e pool))
  pub counts : (part : PartPlan) → Contains (parts_in e) part → (place i : ℕ) → place < length part.streams.items → i < (stream_at part place).size
      → CountsUpto e.given (read_from (cells_in e pool) part place i)
  pub saturated : e.query.distinct ≡ true → AreSaturated e.saturation e.query (parts_in e) (read_from (cells_in e pool)) (tuples_in e)

-- a query that keeps within the numbers that its plan announces: its cells lie in just so many pages, those behind the announced ones
-- are empty, and its table has room for just so many answers, holds no more, and no tuple twice
pub record KeepsWithin (e : ExecutorValue) (pool : PoolValue) : Type 0 where
  pub live : IsLive pool e.extent
  pub pages : e.extent.pages ≡ pages_of e.plan
  pub rest : rest_in e pool ≡ replicate (64 * e.extent.pages - sizes_in (list_in e)) Cell.Empty
  pub room : e.table.capacity ≡ most_answers e.plan
  pub entries : length e.table.entries ≤ most_answers e.plan
  pub ascends : Ascends e.table.entries

-- the executor can take one row more, also where its cells are not those of any history
pub record IsReady (e : ExecutorValue) (pool : PoolValue) : Type 0 where
  pub kept : AreKept e pool
  pub few : e.given < 2 ^ 40

-- the answers to a row that cells and table tell
abbrev pub future_in : ExecutorValue → PoolValue → Arrival → List (List ℤ)
future_in e pool r = future e.query (parts_in e) (read_from (cells_in e pool)) (tuples_in e) r

-- the pool after the cells took a row: no cell of another extent changes, nor one behind the cells of the plan
abbrev pub pool_with : ExecutorValue → PoolValue → Arrival → PoolValue
pool_with e pool r =
    with_cells pool e.extent (merge_in (list_in e) (cells_in e pool) (synopsis_in e.query (list_in e) (r ∷ [])) ++ rest_in e pool)

-- whatever history it stood for, the new answers to the row wait, and it stands for the history with the row
abbrev pub TookRow : ExecutorValue → PoolValue → Arrival → ExecutorValue → PoolValue → Type 0
TookRow before pool r after later =
    (history : List Arrival) → StandsFor before pool history
    → (waiting_in after ≡ new_answers before.query history r) × StandsFor after later (history ++ r ∷ [])

-- the executor took a row: what cells and table answer waits, the cells have the row, and with DISTINCT the table has the tuples; what is
-- known of saturated cells may grow
pub record Took (before : ExecutorValue) (pool : PoolValue) (r : Arrival) (after : ExecutorValue) (later : PoolValue) : Type 0 where
  pub waits : (t : List ℤ) → waiting_of t after.table.entries ≡ min (occurs t (future_in before pool r)) (2 ^ 127)
  pub cells : later ≡ pool_with before pool r
  pub tuples : before.query.distinct ≡ true → tuples_in after ≡ merged_table (tuples_in before) (future_in before pool r)
  pub same : after ≡ with_given (with_saturation before after.saturation) (before.given + 1) after.table.entries
  pub kept : AreKept after later
  pub history : TookRow before pool r after later
