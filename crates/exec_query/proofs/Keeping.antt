-- What keeps an executor within the numbers that its plan announces.
use Rattle.std.proofs.Common.{◌≡◌, ℕ, ◌-◌, ◌*◌, replicate}
use Rattle.sem_query.specs.declared.cell.Cell.{Cell}
use Rattle.sem_query.specs.Sharing.{sizes_in}
use Rattle.exec_pool.specs.Extents.{PoolValue, IsLive}
use Rattle.exec_query.specs.Executor.{ExecutorValue, list_in, rest_in, IsSound, with_given}
use Rattle.exec_query.specs.Standing.{KeepsWithin}
use Rattle.exec_query.proofs.Settled.{written, written-sound}

-- what is true of each executor says it of its pages and its table
pub keeps : (e : ExecutorValue) → IsSound e → (pool : PoolValue) → IsLive pool e.extent
    → rest_in e pool ≡ replicate (64 * e.extent.pages - sizes_in (list_in e)) Cell.Empty → KeepsWithin e pool
keeps e s pool live rest = record {
  live = live;
  pages = s.pages;
  rest = rest;
  room = s.capacity;
  entries = s.entries;
  ascends = s.ascends;
}

-- one row more changes nothing of it
pub counted-within : (e : ExecutorValue) (n : ℕ) (pool : PoolValue) → KeepsWithin e pool → KeepsWithin (with_given e n e.table.entries) pool
counted-within e n pool w = record {
  live = w.live;
  pages = w.pages;
  rest = w.rest;
  room = w.room;
  entries = w.entries;
  ascends = w.ascends;
}

-- nor do answers that were written
pub written-within : (e : ExecutorValue) → IsSound e → (pool : PoolValue) → KeepsWithin e pool → KeepsWithin (written e) pool
written-within e s pool w = keeps (written e) (written-sound e s) pool w.live w.rest
