-- What the shards keep, and what one process keeps: their cells and their tables merge.
use Rattle.std.specs.Prelude.{◌≡◌, ℕ, zero, suc, true, ℤ, List, [], ◌++◌}
use Rattle.std.specs.List.{slice_index_or}
use Rattle.sem_query.specs.declared.cell.Cell.{Cell}
use Rattle.sem_query.specs.declared.plan.Kind.{Kind}
use Rattle.sem_query.specs.declared.plan.PartPlan.{PartPlan}
use Rattle.sem_query.specs.Query.{QueryValue, IsWithinLimits}
use Rattle.sem_query.specs.Meaning.{Arrival}
use Rattle.sem_query.specs.Domains.{RowsKeep}
use Rattle.sem_query.specs.Tuples.{sorted, distinct_tuples}
use Rattle.sem_query.specs.Plan.{stream_at}
use Rattle.sem_query.specs.Cells.{cell_of, printed}
use Rattle.sem_query.specs.Merge.{merged}
use Rattle.sem_sharding.specs.Shards.{Routing, share, IsCovered, IsDealt, IsSent}

-- the cells of k shards, merged
abbrev pub merged_over : Kind → ℕ → (ℕ → Cell) → Cell
merged_over kind zero cells = Cell.Empty
merged_over kind (suc k) cells = merged kind (merged_over kind k cells) (cells k)

-- a cell of one process: of a stream that is dealt, those of the shards merged; of one that is sent to a shard, that of the shard
pub record CellMerges (q : QueryValue) (k : ℕ) (to : Routing) (history : List Arrival) (part : PartPlan) (place i : ℕ) : Type 0 where
  pub dealt : IsDealt k to (slice_index_or q.from place 0)
      → cell_of q history part place i ≡ merged_over (stream_at part place).kind k (λ shard. cell_of q (share to shard history) part place i)
  pub sent : (shard : ℕ) → IsSent to shard (slice_index_or q.from place 0)
      → cell_of q history part place i ≡ cell_of q (share to shard history) part place i

abbrev pub CellsOfShardsMerge : Type 0
CellsOfShardsMerge =
    (q : QueryValue) (k : ℕ) (to : Routing) (history : List Arrival) (part : PartPlan) (place i : ℕ) → CellMerges q k to history part place i

-- the tuples that the shards have printed, one shard after the other
abbrev pub all_printed : QueryValue → Routing → ℕ → List Arrival → List (List ℤ)
all_printed q to zero history = []
all_printed q to (suc k) history = all_printed q to k history ++ printed q (share to k history)

-- the table of one process has each tuple of theirs once
abbrev pub TablesOfShardsMerge : Type 0
TablesOfShardsMerge =
    (q : QueryValue) (k : ℕ) (to : Routing) → IsWithinLimits q → q.distinct ≡ true → IsCovered q k to
    → (history : List Arrival) → RowsKeep q history → printed q history ≡ sorted (distinct_tuples (all_printed q to k history))
