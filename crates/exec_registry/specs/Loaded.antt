-- Loading at a place: what the registry stands for after one number that a checkpoint tells.
use Rattle.std.specs.Prelude.{◌≡◌, ℕ, ◌≤◌, Bool, true, false, Option, Some, None, List, [], slice_get, slice_index_or, slice_set}
use Rattle.sem_query.specs.declared.plan.Plan.{Plan}
use Rattle.sem_query.specs.Query.{QueryValue}
use Rattle.sem_query.specs.Bases.{Base}
use Rattle.exec_pool.specs.Extents.{PoolValue, with_cells, cells_of, IsLive}
use Rattle.exec_query.specs.Executor as executor
use Rattle.exec_query.specs.Executor.{ExecutorValue, waiting_in, with_given, with_saturation}
use Rattle.exec_query.specs.Standing.{AreKept, KeepsWithin}
use Rattle.exec_query.specs.Bases.{StandsFrom}
use Rattle.exec_query.specs.Loading.{Loads}
use Rattle.exec_registry.specs.Live.{Live, LiveQuery, named, with_base}
use Rattle.exec_registry.specs.Registry.{RegistryValue, StandsFor}

-- what loading did where the live query at a place had seen no row: it goes on from the base that came of it; or there is none, and all is
-- as before
abbrev pub LoadsThere : Bool → Option Base → LiveQuery → ℕ → List LiveQuery → RegistryValue → RegistryValue → Type 0
LoadsThere result (Some base) live place queries old new = (result ≡ true) × StandsFor new (slice_set queries place (with_base base live))
LoadsThere result None live place queries old new = (result ≡ false) × (new ≡ old)

-- whatever live queries the registry stood for, loading at a place did this, by what a base becomes
abbrev pub LoadsAt : Bool → ℕ → (LiveQuery → Option Base) → RegistryValue → RegistryValue → Type 0
LoadsAt result place load old new =
    (queries : List LiveQuery) (live : LiveQuery) → StandsFor old queries → slice_get queries place ≡ Some live → live.history ≡ []
    → LoadsThere result (load live) live place queries old new

-- what a base becomes of a query, with shared cells or without, and its plan
abbrev pub Loading : Type 0
Loading = QueryValue → Bool → Plan → Base → Option Base

-- what a live query does to its base
abbrev pub loaded_by : Loading → LiveQuery → Option Base
loaded_by load live = load live.query live.shared live.plan live.base

-- a live query was loaded: no cell of another changed, nothing comes to wait, and no more rows are given than before or n
pub record LoadedOne (result : Bool) (n : ℕ) (load : Loading) (pool later : PoolValue) (before after : Live) : Type 0 where
  pub name : after.name ≡ before.name
  pub same : after.executor ≡ with_saturation (with_given before.executor after.executor.given after.executor.table.entries) after.executor.saturation
  pub only : IsLive pool before.executor.extent → later ≡ with_cells pool before.executor.extent (cells_of later before.executor.extent)
  pub sound : executor.IsSound before.executor → executor.IsSound after.executor
  pub kept : AreKept before.executor pool → AreKept after.executor later
  pub within : KeepsWithin before.executor pool → KeepsWithin after.executor later
  pub quiet : waiting_in before.executor ≡ [] → waiting_in after.executor ≡ []
  pub given : (m : ℕ) → n ≤ m → before.executor.given ≤ m → after.executor.given ≤ m
  pub loads : (base : Base) → StandsFrom before.executor pool base []
      → Loads result (load before.executor.query before.executor.shared before.executor.plan base) before.executor pool after.executor later

-- what runs a live query was loaded without a look at its cells, whatever its name
pub record LoadedAlone (result : Bool) (n : ℕ) (load : Loading) (before after : ExecutorValue) : Type 0 where
  pub each : (name : List ℕ) (pool : PoolValue) → LoadedOne result n load pool pool (named name before) (named name after)

-- the live query at a place was loaded, and the others are as before
pub record LoadedAt (place : ℕ) (result : Bool) (n : ℕ) (load : Loading) (pool later : PoolValue) (before after : List Live) : Type 0 where
  pub live : Live
  pub loaded : (l : Live) → LoadedOne result n load pool later (slice_index_or before place l) live
  pub set : after ≡ slice_set before place live

-- so it was without a look at the cells
pub record LoadedAloneAt (place : ℕ) (result : Bool) (n : ℕ) (load : Loading) (before after : List Live) : Type 0 where
  pub each : (pool : PoolValue) → LoadedAt place result n load pool pool before after
