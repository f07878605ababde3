-- What writing leaves of the live queries.
use Rattle.std.specs.Prelude.{◌≡◌, ℕ, ◌<◌, ◌≤◌, List, [], length, slice_index_or, slice_set, ⊤}
use Rattle.std.specs.declared.result.Result.{Result}
use Rattle.std.specs.declared.result.Result.TheVariants.{Ok, Err}
use Rattle.io_streams.specs.Sink.{SinkState, BrokeOff}
use Rattle.exec_answer_lines.specs.Gathering.{Gathered, Gathers}
use Rattle.exec_answer_table.specs.Entries.{settled}
use Rattle.sem_query.specs.Meaning.{Arrival}
use Rattle.sem_query.specs.Bases.{Base}
use Rattle.exec_pool.specs.Extents.{PoolValue}
use Rattle.exec_query.specs.Executor.{waiting_in, with_given}
use Rattle.exec_query.specs.Standing.{AreKept, KeepsWithin}
use Rattle.exec_query.specs.Bases.{StandsFrom}
use Rattle.exec_registry.specs.Live.{Live}

-- nothing waits of a live query, and all else is as before
pub record WroteOne (before after : Live) : Type 0 where
  pub name : after.name ≡ before.name
  pub none : waiting_in after.executor ≡ []
  pub same : after.executor ≡ with_given before.executor before.executor.given (settled before.executor.table.entries)
  pub kept : (pool : PoolValue) → AreKept before.executor pool → AreKept after.executor pool
  pub within : (pool : PoolValue) → KeepsWithin before.executor pool → KeepsWithin after.executor pool
  pub bases : (pool : PoolValue) (base : Base) (history : List Arrival) → StandsFrom before.executor pool base history → StandsFrom after.executor pool base history

-- nothing waits of the live query at a place, and the others stand as before
pub record WroteAt (place : ℕ) (before after : List Live) : Type 0 where
  pub live : Live
  pub wrote : (l : Live) → WroteOne (slice_index_or before place l) live
  pub set : after ≡ slice_set before place live

-- the first n live queries were written or given up, and the others are as before
pub record WroteFirst (n : ℕ) (before after : List Live) : Type 0 where
  pub size : length after ≡ length before
  pub done : (i : ℕ) (l : Live) → i < n → i < length before → WroteOne (slice_index_or before i l) (slice_index_or after i l)
  pub others : (i : ℕ) (l : Live) → n ≤ i → i < length before → slice_index_or after i l ≡ slice_index_or before i l

-- a text was gathered after what went so; after a fault nothing is
abbrev pub GathersNext : {E : Type 0} → Result ⊤ E → Result ⊤ E → SinkState → SinkState → List ℕ → List ℕ → List ℕ → Type 0
GathersNext (Ok x) result before after held now text = Gathers result before after held now text
GathersNext (Err e) result before after held now text = (result ≡ Err e) × (after ≡ before)

-- a front of a text was gathered so far, or the text broke off
abbrev pub GatheredSo : {E : Type 0} → Result ⊤ E → SinkState → SinkState → List ℕ → List ℕ → List ℕ → Type 0
GatheredSo (Ok x) before after now front text = Gathered before after [] now front
GatheredSo (Err e) before after now front text = BrokeOff before after text
