-- What a row does to the live queries, one after the other.
use Rattle.std.specs.Prelude.{◌≡◌, ℕ, ◌+◌, ◌<◌, ◌≤◌, List, [], length, slice_index_or}
use Rattle.std.specs.Int.{bit_at}
use Rattle.sem_query.specs.Meaning.{Arrival}
use Rattle.exec_pool.specs.Extents.{PoolValue, with_cells, cells_of}
use Rattle.exec_query.specs.Executor as executor
use Rattle.exec_query.specs.Executor.{waiting_in, with_given, with_saturation}
use Rattle.exec_query.specs.Standing.{AreKept, KeepsWithin}
use Rattle.exec_query.specs.Bases.{TookFrom}
use Rattle.exec_filter.specs.Prefilter.{IsRefused}
use Rattle.exec_registry.specs.Live.{Live, LiveQuery, answers_of, with_row}
use Rattle.exec_registry.specs.Registry.{IsSound, IsLiveFor, AreLiveFor, AsksTheSame}

-- a live query took a row: no cell of another changed
pub record TookOne (r : Arrival) (pool later : PoolValue) (before after : Live) : Type 0 where
  pub name : after.name ≡ before.name
  pub same : after.executor ≡ with_given (with_saturation before.executor after.executor.saturation) (before.executor.given + 1) after.executor.table.entries
  pub only : later ≡ with_cells pool before.executor.extent (cells_of later before.executor.extent)
  pub sound : executor.IsSound after.executor
  pub kept : AreKept after.executor later
  pub within : KeepsWithin before.executor pool → KeepsWithin after.executor later
  pub bases : TookFrom before.executor pool r after.executor later

-- each live query that has no bit in the word refuses the row, and nothing waits of it; the word has bits of live queries alone
pub record AreSpared (word : ℕ) (r : Arrival) (live : List Live) : Type 0 where
  pub only : (k : ℕ) → bit_at word k ≡ 1 → k < length live
  pub refused : (k : ℕ) (l : Live) → k < length live → bit_at word k ≡ 0 → IsRefused (slice_index_or live k l).executor.query (slice_index_or live k l).executor.plan r
  pub quiet : (k : ℕ) (l : Live) → k < length live → bit_at word k ≡ 0 → waiting_in (slice_index_or live k l).executor ≡ []

-- the first n live queries took a row, and the others did not
pub record TookFirst (r : Arrival) (n : ℕ) (pool later : PoolValue) (before after : List Live) : Type 0 where
  pub sound : IsSound later after
  pub pages : later.pages ≡ pool.pages
  pub size : length after ≡ length before
  pub given : (i : ℕ) (l : Live) → i < length before → (slice_index_or after i l).executor.given ≤ (slice_index_or before i l).executor.given + 1
  pub ready : (i : ℕ) (l : Live) → n ≤ i → i < length before → slice_index_or after i l ≡ slice_index_or before i l
  pub plans : (i : ℕ) (l : Live) → i < length before → (slice_index_or after i l).executor.plan ≡ (slice_index_or before i l).executor.plan
  pub asked : (i : ℕ) (l : Live) → i < length before → AsksTheSame (slice_index_or after i l) (slice_index_or before i l)
  pub done : (queries : List LiveQuery) → AreLiveFor pool before queries → (i : ℕ) (l : Live) (q : LiveQuery) → i < n → i < length before
      → IsLiveFor later (slice_index_or after i l) (with_row r (slice_index_or queries i q))
      × (waiting_in (slice_index_or after i l).executor ≡ answers_of r (slice_index_or queries i q))
  pub others : (queries : List LiveQuery) → AreLiveFor pool before queries → (i : ℕ) (l : Live) (q : LiveQuery) → n ≤ i → i < length before
      → IsLiveFor later (slice_index_or after i l) (slice_index_or queries i q)
