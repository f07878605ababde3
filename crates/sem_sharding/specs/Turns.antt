-- One stream whose rows are dealt out in turn, or in any other way, while all other streams are broadcast.
use Rattle.std.specs.Prelude.{◌≡◌, ◌≢◌, ℕ, zero, suc, min, ◌<◌, if◌then◌else◌, ℤ, List, [], ◌++◌, length, IsPermutation}
use Rattle.std.specs.List.{slice_index_or}
use Rattle.sem_query.specs.Query.{QueryValue, IsWithinLimits}
use Rattle.sem_query.specs.Meaning.{Arrival, rows}
use Rattle.sem_laws.specs.Growth.{answered}
use Rattle.sem_sharding.specs.Shards.{shards_answered}

-- the rows of a stream that k shards have got, one shard after the other
abbrev pub all_got : ℕ → (ℕ → List Arrival) → ℕ → List (List ℤ)
all_got zero got stream = []
all_got (suc k) got stream = all_got k got stream ++ rows (got k) stream

-- of a history k shards have got the rows of one place of FROM once in all, and those of each other place all of them, in any order
pub record HaveOneDealt (q : QueryValue) (k : ℕ) (got : ℕ → List Arrival) (history : List Arrival) : Type 0 where
  pub place : ℕ
  pub at : place < length q.from
  pub dealt : IsPermutation (all_got k got (slice_index_or q.from place 0)) (rows history (slice_index_or q.from place 0))
  pub sent : (other shard : ℕ) → other < length q.from → other ≢ place → shard < k
      → IsPermutation (rows (got shard) (slice_index_or q.from other 0)) (rows history (slice_index_or q.from other 0))

-- then they answer each tuple as often as one process does, and with DISTINCT at least once those that it answers, and no others
abbrev pub OneStreamDealt : Type 0
OneStreamDealt =
    (q : QueryValue) (k : ℕ) → IsWithinLimits q → (got : ℕ → List Arrival) (history : List Arrival) → HaveOneDealt q k got history
    → (t : List ℤ) → (if q.distinct then min 1 (shards_answered q t k got) else shards_answered q t k got) ≡ answered q t [] history
