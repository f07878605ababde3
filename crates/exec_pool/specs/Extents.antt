-- What contracts see of a pool: its pages, how many are free, the pages of each live extent, and a map from each live
-- extent and place to a cell.
use Rattle.std.specs.Prelude.{◌≡◌, ◌≢◌, ℕ, ◌+◌, ◌*◌, List, [], length, Option, None, Some, is_some, slice_index, slice_index_or, slice_set, unwrap_or, ◌<◌, replicate}
use Rattle.std.specs.List.{count_by, sum_by}
use Rattle.sem_query.specs.declared.cell.Cell.{Cell}
use Rattle.exec_pool.specs.declared.pool.Extent.{Extent}
use Rattle.sem_query.specs.declared.cell.Cell.TheVariants.{Empty}
use Rattle.exec_pool.specs.declared.pool.PoolError.{PoolError}
use Rattle.exec_pool.specs.declared.pool.PoolError.TheVariants.{Full}

-- how many pages there are and how many are free; and at each slot the pages and the cells of the extent that is live
-- there, a page named by its number
pub record PoolValue : Type 0 where
  pub pages : ℕ
  pub free : ℕ
  pub lent : List (List ℕ)
  pub extents : List (Option (List Cell))

-- the cells of an extent, in order
abbrev pub cells_of : PoolValue → Extent → List Cell
cells_of pool extent = unwrap_or (slice_index_or pool.extents extent.slot None) []

-- the pool in which the cells of that extent are these, and all else is as before
abbrev pub with_cells : PoolValue → Extent → List Cell → PoolValue
with_cells pool extent cells =
    record { pages = pool.pages; free = pool.free; lent = pool.lent; extents = slice_set pool.extents extent.slot (Some cells) }

-- the extent is live in the pool, with 64 cells for each of its pages
pub record IsLive (pool : PoolValue) (extent : Extent) : Type 0 where
  pub live : slice_index_or pool.extents extent.slot None ≡ Some (cells_of pool extent)
  pub pages : length (cells_of pool extent) ≡ 64 * extent.pages

-- how many extents are live
abbrev pub live_extents : PoolValue → ℕ
live_extents pool = count_by is_some pool.extents

-- the pages at a slot
abbrev pub pages_at : PoolValue → ℕ → List ℕ
pages_at pool slot = slice_index_or pool.lent slot []

-- how many pages are lent out
abbrev pub lent_pages : PoolValue → ℕ
lent_pages pool = sum_by length pool.lent

-- no two live extents have a page in common, none has a page twice, and each has a page for 64 of its cells
pub record AreApart (pool : PoolValue) : Type 0 where
  pub inside : (slot i : ℕ) → i < length (pages_at pool slot) → slice_index (pages_at pool slot) i < pool.pages
  pub apart : (slot other i j : ℕ)
      → i < length (pages_at pool slot)
      → j < length (pages_at pool other)
      → slice_index (pages_at pool slot) i ≡ slice_index (pages_at pool other) j
      → (slot ≡ other) × (i ≡ j)
  pub occupied : (slot : ℕ) → 64 * length (pages_at pool slot) ≡ length (unwrap_or (slice_index_or pool.extents slot None) [])

-- an extent of empty cells was taken from the free pages, at a slot where none was live, and all else is as before
pub record IsTaken (before : PoolValue) (needed : ℕ) (after : PoolValue) (extent : Extent) : Type 0 where
  pub pages : extent.pages ≡ needed
  pub slot : extent.slot < length before.extents
  pub vacant : slice_index_or before.extents extent.slot None ≡ None
  pub all : after.pages ≡ before.pages
  pub free : after.free + needed ≡ before.free
  pub others : (slot : ℕ) → slot ≢ extent.slot → pages_at after slot ≡ pages_at before slot
  pub extents : after.extents ≡ slice_set before.extents extent.slot (Some (replicate (64 * needed) Empty))

-- more pages were needed than are free, and nothing changed
pub record IsFull (before : PoolValue) (needed : ℕ) (after : PoolValue) (refused : PoolError) : Type 0 where
  pub error : refused ≡ Full needed before.free
  pub short : before.free < needed
  pub same : after ≡ before

-- the pages of the extent are free again, and all else is as before
pub record IsGivenBack (before : PoolValue) (extent : Extent) (after : PoolValue) : Type 0 where
  pub all : after.pages ≡ before.pages
  pub free : after.free ≡ before.free + extent.pages
  pub others : (slot : ℕ) → slot ≢ extent.slot → pages_at after slot ≡ pages_at before slot
  pub extents : after.extents ≡ slice_set before.extents extent.slot None

-- a pool with all its pages free and no extent live at any of its 64 slots
pub record IsFresh (pages : ℕ) (pool : PoolValue) : Type 0 where
  pub all : pool.pages ≡ pages
  pub free : pool.free ≡ pages
  pub slots : length pool.extents ≡ 64
  pub none : live_extents pool ≡ 0
