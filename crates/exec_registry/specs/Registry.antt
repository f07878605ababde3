-- What a registry keeps, and the live queries that it stands for.
use Rattle.std.specs.Prelude.{◌≡◌, ◌≢◌, ℕ, ◌+◌, ◌<◌, ◌≤◌, List, [], length, All, AllPairs, slice_index_or}
use Rattle.std.specs.List.{flat_map, sum_by}
use Rattle.sql_text.specs.Tuple.{tuple_line}
use Rattle.sem_query.specs.Domains.{RowKeeps}
use Rattle.sem_query.specs.Meaning.{Arrival}
use Rattle.exec_pool.specs.Extents.{PoolValue, live_extents}
use Rattle.exec_query.specs.Executor as executor
use Rattle.exec_query.specs.Executor.{waiting_in}
use Rattle.exec_query.specs.Bases.{StandsFrom}
use Rattle.exec_query.specs.Standing.{AreKept, KeepsWithin}
use Rattle.exec_registry.specs.Live.{Live, LiveQuery, answers_of, plan_cells, plan_reads, plan_writes}

-- the pool of all cells, and the live queries in order of creation, each with its executor
pub record RegistryValue : Type 0 where
  pub pool : PoolValue
  pub live : List Live

-- what is true of each registry: each live query has an accepted plan and keeps within the numbers that it announces, in pages of its
-- own, its cells are kept, and all other pages are free
pub record IsSound (pool : PoolValue) (live : List Live) : Type 0 where
  pub few : length live ≤ 64
  pub slots : length pool.extents ≡ 64
  pub count : live_extents pool ≡ length live
  pub free : pool.free + sum_by (λ l. l.executor.extent.pages) live ≡ pool.pages
  pub sound : All (λ l. executor.IsSound l.executor) live
  pub within : All (λ l. KeepsWithin l.executor pool) live
  pub kept : All (λ l. AreKept l.executor pool) live
  pub apart : AllPairs (λ l m. l.executor.extent.slot ≢ m.executor.extent.slot) live

-- what is kept of a live query stands for it
pub record IsLiveFor (pool : PoolValue) (l : Live) (q : LiveQuery) : Type 0 where
  pub name : l.name ≡ q.name
  pub query : l.executor.query ≡ q.query
  pub shared : l.executor.shared ≡ q.shared
  pub plan : l.executor.plan ≡ q.plan
  pub stands : StandsFrom l.executor pool q.base q.history

-- what is kept stands for these live queries, each for the one at its place
pub record AreLiveFor (pool : PoolValue) (live : List Live) (queries : List LiveQuery) : Type 0 where
  pub size : length live ≡ length queries
  pub each : (i : ℕ) (l : Live) (q : LiveQuery) → i < length live → IsLiveFor pool (slice_index_or live i l) (slice_index_or queries i q)

-- the registry stands for these live queries
abbrev pub StandsFor : RegistryValue → List LiveQuery → Type 0
StandsFor r queries = AreLiveFor r.pool r.live queries

-- the row keeps to the domains of each live query
abbrev pub KeepsToEach : List Live → Arrival → Type 0
KeepsToEach live r = All (λ l. RowKeeps l.executor.query r) live

-- each live query keeps within the numbers that its plan announces
abbrev pub KeepWithin : RegistryValue → Type 0
KeepWithin r = All (λ l. KeepsWithin l.executor r.pool) r.live

-- no answer waits
abbrev pub IsQuiet : RegistryValue → Type 0
IsQuiet r = All (λ l. waiting_in l.executor ≡ []) r.live

-- a live query has the name of another, asks the same, and shares its cells or not as it does
pub record AsksTheSame (l m : Live) : Type 0 where
  pub name : l.name ≡ m.name
  pub query : l.executor.query ≡ m.executor.query
  pub shared : l.executor.shared ≡ m.executor.shared

-- each live query asks what one did before
abbrev pub KeepQueries : List Live → List Live → Type 0
KeepQueries old new = (i : ℕ) (l : Live) → i < length new → (j : ℕ) × (j < length old) × AsksTheSame (slice_index_or new i l) (slice_index_or old j l)

-- to no live query were more rows given
abbrev pub GivenUpto : ℕ → RegistryValue → Type 0
GivenUpto n r = All (λ l. l.executor.given ≤ n) r.live

-- the answers to a row wait, of each live query by its own base and history
pub record Wait (live : List Live) (queries : List LiveQuery) (r : Arrival) : Type 0 where
  pub each : (i : ℕ) (l : Live) (q : LiveQuery) → i < length live
      → waiting_in (slice_index_or live i l).executor ≡ answers_of r (slice_index_or queries i q)

-- the lines of what waits of a live query
abbrev pub waiting_text : Live → List ℕ
waiting_text l = flat_map (tuple_line l.name) (waiting_in l.executor)

-- the cells that the plans announce over what is kept
abbrev pub most_cells : List Live → ℕ
most_cells live = sum_by (λ l. plan_cells l.executor.plan) live

-- the most cells that a row reads over what is kept, and the most that it writes
abbrev pub most_reads : List Live → ℕ
most_reads live = sum_by (λ l. plan_reads l.executor.plan) live

abbrev pub most_writes : List Live → ℕ
most_writes live = sum_by (λ l. plan_writes l.executor.plan) live
