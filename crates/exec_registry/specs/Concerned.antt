-- Which live queries a row may concern.
use Rattle.std.specs.Prelude.{◌≡◌, ◌≢◌, ℕ, ℤ, ◌<◌, ◌≤◌, List, length, slice_get, slice_index_or, Option, Some}
use Rattle.std.specs.Int.{bit_at}
use Rattle.exec_query_index.specs.declared.boxes.QueryBox.{QueryBox}
use Rattle.exec_query_index.specs.declared.candidates.Candidates.{Candidates}
use Rattle.exec_query_index.specs.Buckets.{AreFor}
use Rattle.sem_query.specs.Meaning.{Arrival}
use Rattle.exec_filter.specs.Prefilter.{IsRefused}
use Rattle.exec_query.specs.Executor.{arrival}
use Rattle.exec_query.specs.Passing.{IsBoxFor}
use Rattle.exec_registry.specs.declared.concerned.Concerned.{Concerned}
use Rattle.exec_registry.specs.declared.concerned.Listing.TheVariants.{Unlisted, Spared}
use Rattle.exec_registry.specs.Live.{Live}

-- the boxes are those of the live queries for the rows of a stream
pub record AreBoxes (stream : ℕ) (boxes : List (Option QueryBox)) (live : List Live) : Type 0 where
  pub size : length boxes ≡ length live
  pub each : (k : ℕ) (l : Live) (own : Option QueryBox) → slice_get boxes k ≡ Some own
      → IsBoxFor (slice_index_or live k l).executor.query (slice_index_or live k l).executor.plan stream own

-- the candidates of a stream are those of such boxes
pub record IsListed (stream : ℕ) (c : Candidates) (live : List Live) : Type 0 where
  pub boxes : List (Option QueryBox)
  pub own : AreBoxes stream boxes live
  pub are : AreFor boxes c

-- each live query refuses each row of the stream
abbrev pub SparesStream : ℕ → List Live → Type 0
SparesStream stream live =
    (k : ℕ) (l : Live) → k < length live → (values : List ℤ) → IsRefused (slice_index_or live k l).executor.query (slice_index_or live k l).executor.plan (arrival stream values)

-- the candidates of each stream are listed, or it is known that they are not; and of a stream that is said to be spared each row is refused
pub record IsTold (c : Concerned) (live : List Live) : Type 0 where
  pub streams : length c.streams.items ≤ 16
  pub size : length c.listings ≡ 256
  pub within : (stream : ℕ) → slice_index_or c.listings stream Unlisted ≢ Unlisted → stream < length c.streams.items
  pub listed : (stream : ℕ) (own : Candidates) → slice_index_or c.listings stream Unlisted ≢ Unlisted → slice_get c.streams.items stream ≡ Some own → IsListed stream own live
  pub spared : (stream : ℕ) → slice_index_or c.listings stream Unlisted ≡ Spared → SparesStream stream live

-- the word has bits of live queries alone, and each that has none refuses the row
pub record MayConcern (word : ℕ) (r : Arrival) (live : List Live) : Type 0 where
  pub only : (k : ℕ) → bit_at word k ≡ 1 → k < length live
  pub refused : (k : ℕ) (l : Live) → k < length live → bit_at word k ≡ 0 → IsRefused (slice_index_or live k l).executor.query (slice_index_or live k l).executor.plan r
