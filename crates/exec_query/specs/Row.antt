-- What a row does to an executor.
use Rattle.std.specs.Prelude.{◌≡◌, ℕ, ◌+◌, ◌*◌, ◌≤◌, ◌==◌, false, IsTrue, length}
use Rattle.std.specs.List.{list_any}
use Rattle.sem_query.specs.Query.{is_filter}
use Rattle.sem_query.specs.Meaning.{Arrival}
use Rattle.sem_query.specs.Numbers.{work}
use Rattle.exec_pool.specs.Counted.{StepsValue}
use Rattle.exec_pool.specs.Extents.{PoolValue}
use Rattle.exec_query.specs.Executor.{ExecutorValue, parts_in, with_saturation}
use Rattle.exec_query.specs.Standing.{AreKept, KeepsWithin, Took}
use Rattle.exec_query.specs.Bases.{TookFrom}
use Rattle.exec_query.specs.Reads.{row_reads}

-- all that a row does to an executor and its cells: the executor took it, also where it goes on from a base, and keeps within the numbers
-- that its plan announces
pub record TakesRow (before : ExecutorValue) (pool : PoolValue) (r : Arrival) (after : ExecutorValue) (later : PoolValue) : Type 0 where
  pub row : Took before pool r after later
  pub within : KeepsWithin before pool → KeepsWithin after later
  pub bases : TookFrom before pool r after later

-- the executor kept to the announced work when it took a row: it read at most three cells for each unit of it and one for each part, and
-- wrote at most one for each part; a filter, and a query that does not name the stream, read and wrote none
pub record KeepsToWork (before : ExecutorValue) (r : Arrival) (steps later : StepsValue) : Type 0 where
  pub reads : later.reads ≤ steps.reads + 3 * work (parts_in before) + length (parts_in before)
  pub writes : later.writes ≤ steps.writes + length (parts_in before)
  pub alone : IsTrue (is_filter before.query) → later ≡ steps
  pub outside : list_any (λ stream. r.stream == stream) before.query.from ≡ false → later ≡ steps

-- so it did, and read no more than a row does
pub record KeepsToReads (before : ExecutorValue) (r : Arrival) (steps later : StepsValue) : Type 0 where
  pub reads : later.reads ≤ steps.reads + row_reads (parts_in before) + length (parts_in before)
  pub writes : later.writes ≤ steps.writes + length (parts_in before)
  pub alone : IsTrue (is_filter before.query) → later ≡ steps
  pub outside : list_any (λ stream. r.stream == stream) before.query.from ≡ false → later ≡ steps

-- the executor looked at cells before it takes a row of a stream: each of which it is known that it is saturated is, and it read no more than the
-- announced work leaves beside what the row reads
pub record HasLooked (before : ExecutorValue) (pool : PoolValue) (stream : ℕ) (after : ExecutorValue) (steps later : StepsValue) : Type 0 where
  pub same : after ≡ with_saturation before after.saturation
  pub kept : AreKept after pool
  pub reads : later.reads + row_reads (parts_in before) ≤ steps.reads + 3 * work (parts_in before)
  pub writes : later.writes ≡ steps.writes
  pub alone : IsTrue (is_filter before.query) → later ≡ steps
  pub outside : list_any (λ s. stream == s) before.query.from ≡ false → later ≡ steps
