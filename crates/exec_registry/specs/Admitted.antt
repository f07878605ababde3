-- What taking a query among the live ones, and out of them, does to the pool.
use Rattle.std.specs.Prelude.{◌≡◌, ℕ, Bool, ◌<◌, ◌≤◌, List, [], ◌∷◌, ◌++◌, length, remove, slice_index_or}
use Rattle.std.specs.declared.result.Result.{Result}
use Rattle.std.specs.declared.result.Result.TheVariants.{Ok, Err}
use Rattle.sem_query.specs.declared.plan.Plan.{Plan}
use Rattle.sem_query.specs.Query.{QueryValue}
use Rattle.sem_query.specs.Numbers.{pages_of}
use Rattle.exec_pool.specs.declared.pool.Extent.{Extent}
use Rattle.exec_pool.specs.Extents.{PoolValue, cells_of, IsLive, IsGivenBack}
use Rattle.exec_query.specs.Executor as executor
use Rattle.exec_query.specs.Executor.{list_in, waiting_in}
use Rattle.exec_query.specs.Standing.{AreKept, KeepsWithin}
use Rattle.exec_query.specs.Bases.{StandsFrom}
use Rattle.sem_query.specs.Bases.{first_base}
use Rattle.exec_registry.specs.Live.{Live}
use Rattle.exec_registry.specs.declared.refusal.CreateError.{CreateError}
use Rattle.exec_registry.specs.declared.refusal.CreateError.TheVariants as refusals
use Rattle.exec_registry.specs.declared.verdict.Verdict.{Verdict}
use Rattle.exec_registry.specs.Registry.{IsSound}
use Rattle.exec_registry.specs.Judged.{verdict_of}

-- the extent is live in the other pool, with the same cells
pub record AreSame (e : Extent) (p q : PoolValue) : Type 0 where
  pub live : IsLive q e
  pub cells : cells_of q e ≡ cells_of p e

-- the cells of some live queries are the same in another pool
pub record AreBeside (live : List Live) (p q : PoolValue) : Type 0 where
  pub each : (i : ℕ) (l : Live) → i < length live → AreSame (slice_index_or live i l).executor.extent p q

-- a live query that was just made: it has seen no row, and nothing waits
pub record IsNew (name : List ℕ) (q : QueryValue) (shared : Bool) (plan : Plan) (extent : Extent) (pool : PoolValue) (l : Live) : Type 0 where
  pub named : l.name ≡ name
  pub asked : l.executor.query ≡ q
  pub sharing : l.executor.shared ≡ shared
  pub planned : l.executor.plan ≡ plan
  pub pages : l.executor.extent ≡ extent
  pub sound : executor.IsSound l.executor
  pub within : KeepsWithin l.executor pool
  pub given : l.executor.given ≡ 0
  pub stands : StandsFrom l.executor pool (first_base (list_in l.executor)) []
  pub kept : AreKept l.executor pool
  pub none : waiting_in l.executor ≡ []

-- it is the last of the live queries
pub record IsLast (name : List ℕ) (q : QueryValue) (shared : Bool) (plan : Plan) (extent : Extent) (pool : PoolValue) (before after : List Live) : Type 0 where
  pub live : Live
  pub new : IsNew name q shared plan extent pool live
  pub last : after ≡ before ++ live ∷ []

-- a query whose pages were taken is live, or its pages were given back
abbrev pub SettlesIn : {A E : Type 0} → Result A E → List ℕ → QueryValue → Bool → Plan → Extent → PoolValue → List Live → PoolValue → List Live → Type 0
SettlesIn (Ok x) name q shared plan extent pool live later after = (later ≡ pool) × IsLast name q shared plan extent pool live after
SettlesIn (Err e) name q shared plan extent pool live later after = (after ≡ live) × IsGivenBack pool extent later

-- a query is live, or its pages are not free, or there is no memory and all is as before
abbrev pub Admits : Result Verdict CreateError → List ℕ → QueryValue → Bool → Plan → PoolValue → List Live → PoolValue → List Live → Type 0
Admits (Ok verdict) name q shared plan pool live later after =
    (verdict ≡ verdict_of plan) × (pages_of plan ≤ pool.free) × IsSound later after × AreBeside live pool later × ((e : Extent) × IsLast name q shared plan e later live after) × (later.pages ≡ pool.pages)
Admits (Err (refusals.Pool needed free)) name q shared plan pool live later after =
    (needed ≡ pages_of plan) × (free ≡ pool.free) × (pool.free < needed) × (later ≡ pool) × (after ≡ live)
Admits (Err refusals.Memory) name q shared plan pool live later after =
    IsSound later after × AreBeside live pool later × (later.free ≡ pool.free) × (after ≡ live) × (later.pages ≡ pool.pages)
Admits (Err (refusals.Violation part condition attr)) name q shared plan pool live later after = ⊥
Admits (Err (refusals.Limit which value limit)) name q shared plan pool live later after = ⊥

-- the live query at a place is none any more, and its pages are free
pub record IsDropped (place : ℕ) (pool : PoolValue) (live : List Live) (later : PoolValue) (after : List Live) : Type 0 where
  pub sound : IsSound later after
  pub left : after ≡ remove live place
  pub beside : AreBeside after pool later
  pub pages : later.pages ≡ pool.pages
