-- Rows that a query does not concern: which they are, told by a box of intervals, and what they do to what runs it.
use Rattle.std.specs.Prelude.{◌≡◌, ℕ, ◌+◌, ℤ, List, [], Option, Some, None}
use Rattle.exec_query_index.specs.declared.boxes.QueryBox.{QueryBox}
use Rattle.exec_query_index.specs.Boxes.{IsInside}
use Rattle.sem_query.specs.declared.plan.Plan.{Plan}
use Rattle.sem_query.specs.Query.{QueryValue}
use Rattle.sem_query.specs.Domains.{RowKeeps}
use Rattle.sem_query.specs.Meaning.{Arrival}
use Rattle.exec_pool.specs.Extents.{PoolValue}
use Rattle.exec_filter.specs.Prefilter.{IsRefused}
use Rattle.exec_query.specs.Executor.{ExecutorValue, IsSound, waiting_in, with_given}
use Rattle.exec_query.specs.Standing.{AreKept, KeepsWithin, IsReady}
use Rattle.exec_query.specs.Bases.{TookFrom}

-- each row of the stream outside of the box is refused; where there is none, each row of it is
abbrev pub IsBoxFor : QueryValue → Plan → ℕ → Option QueryBox → Type 0
IsBoxFor q plan stream None = (row : List ℤ) → IsRefused q plan (record { stream = stream; values = row })
IsBoxFor q plan stream (Some box) = (row : List ℤ) → (IsInside box row → ⊥) → IsRefused q plan (record { stream = stream; values = row })

-- an executor took a row without a look at its cells
pub record Passed (before : ExecutorValue) (pool : PoolValue) (r : Arrival) (after : ExecutorValue) : Type 0 where
  pub sound : IsSound after
  pub kept : AreKept after pool
  pub within : KeepsWithin before pool → KeepsWithin after pool
  pub bases : TookFrom before pool r after pool

-- where nothing waits, a row that is refused is taken by counting it
abbrev pub RefusedRowsPass : Type 0
RefusedRowsPass =
    (e : ExecutorValue) (pool : PoolValue) (r : Arrival) → IsSound e → IsReady e pool → RowKeeps e.query r
    → waiting_in e ≡ [] → IsRefused e.query e.plan r → Passed e pool r (with_given e (e.given + 1) e.table.entries)
