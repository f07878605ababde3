-- One query over k processes, the shards: which rows each of them sees, and what they answer together.
use Rattle.std.specs.Prelude.{◌≡◌, ℕ, zero, suc, ◌+◌, min, ◌<◌, Bool, true, false, IsTrue, if◌then◌else◌, ℤ, List, [], ◌∷◌, ◌++◌, filter, length, Contains}
use Rattle.std.specs.List.{list_all}
use Rattle.sem_query.specs.Query.{QueryValue, IsWithinLimits}
use Rattle.sem_query.specs.Assignment.{Holds, KeepsDomains, projected}
use Rattle.sem_query.specs.Meaning.{Arrival, assignment_of, new_answers}
use Rattle.sem_query.specs.Domains.{RowKeeps, RowsKeep}
use Rattle.sem_query.specs.Tuples.{sorted, new_tuples}
use Rattle.sem_query.specs.Cells.{printed}
use Rattle.sem_query.specs.Reordering.{Reorders}
use Rattle.sem_laws.specs.Growth.{answered}

-- whether a row goes to a shard; shards are numbered from 0, and a row may go to several
abbrev pub Routing : Type 0
Routing = ℕ → Arrival → Bool

-- the rows of a history that go to a shard, in their order
abbrev pub share : Routing → ℕ → List Arrival → List Arrival
share to shard history = filter (to shard) history

-- what k shards answer to a row: each to which it goes, by its share of the history
abbrev pub shards_answer : QueryValue → Routing → ℕ → List Arrival → Arrival → List (List ℤ)
shards_answer q to zero history r = []
shards_answer q to (suc k) history r =
    shards_answer q to k history r ++ (if to k r then new_answers q (share to k history) r else [])

-- a combination, one row per stream of FROM, that counts: its values keep to the domains, and the condition holds
pub record Counts (q : QueryValue) (c : List (List ℤ)) : Type 0 where
  pub whole : length c ≡ length q.from
  pub keeps : KeepsDomains q (assignment_of c)
  pub holds : Holds q (assignment_of c)

-- the rows of a combination, each with its stream
abbrev pub rows_of : List ℕ → List (List ℤ) → List Arrival
rows_of (s ∷ from) (row ∷ c) = record { stream = s; values = row } ∷ rows_of from c
rows_of from c = []

-- all rows of a combination go to the shard
abbrev pub Sees : QueryValue → Routing → ℕ → List (List ℤ) → Type 0
Sees q to shard c = IsTrue (list_all (to shard) (rows_of q.from c))

-- each combination that counts is seen whole by one of k shards
abbrev pub IsCovered : QueryValue → ℕ → Routing → Type 0
IsCovered q k to = (c : List (List ℤ)) → Counts q c → (shard : ℕ) × (shard < k) × Sees q to shard c

-- and by no other
pub record IsSplit (q : QueryValue) (k : ℕ) (to : Routing) : Type 0 where
  pub some : IsCovered q k to
  pub one : (c : List (List ℤ)) → Counts q c → (i j : ℕ) → i < k → j < k → Sees q to i c → Sees q to j c → i ≡ j

-- and so are all combinations of one tuple
pub record IsDisjoint (q : QueryValue) (k : ℕ) (to : Routing) : Type 0 where
  pub some : IsCovered q k to
  pub one : (c d : List (List ℤ)) → Counts q c → Counts q d → projected q (assignment_of c) ≡ projected q (assignment_of d)
      → (i j : ℕ) → i < k → j < k → Sees q to i c → Sees q to j d → i ≡ j

-- to each row the shards answer together what one process does
abbrev pub AnswerTogether : QueryValue → ℕ → Routing → Type 0
AnswerTogether q k to =
    (history : List Arrival) (r : Arrival) → RowsKeep q history → RowKeeps q r
    → sorted (shards_answer q to k history r) ≡ new_answers q history r

-- without DISTINCT they do where the routing is a split
abbrev pub SplitAnswers : Type 0
SplitAnswers = (q : QueryValue) (k : ℕ) (to : Routing) → IsWithinLimits q → q.distinct ≡ false → IsSplit q k to → AnswerTogether q k to

-- with DISTINCT they do where it keeps combinations of one tuple together
abbrev pub DisjointAnswers : Type 0
DisjointAnswers = (q : QueryValue) (k : ℕ) (to : Routing) → IsWithinLimits q → q.distinct ≡ true → IsDisjoint q k to → AnswerTogether q k to

-- with DISTINCT, where combinations are seen at all, the tuples that the shards answer and that were not printed before, each once, are
-- what one process answers
abbrev pub DedupedAnswers : Type 0
DedupedAnswers =
    (q : QueryValue) (k : ℕ) (to : Routing) → IsWithinLimits q → q.distinct ≡ true → IsCovered q k to
    → (history : List Arrival) (r : Arrival) → RowsKeep q history → RowKeeps q r
    → sorted (new_tuples (printed q history) (shards_answer q to k history r)) ≡ new_answers q history r

-- each row of the stream goes to one of k shards, and to no other
pub record IsDealt (k : ℕ) (to : Routing) (stream : ℕ) : Type 0 where
  pub some : (r : Arrival) → r.stream ≡ stream → (shard : ℕ) × (shard < k) × IsTrue (to shard r)
  pub one : (r : Arrival) → r.stream ≡ stream → (i j : ℕ) → i < k → j < k → IsTrue (to i r) → IsTrue (to j r) → i ≡ j

-- each row of the stream goes to the shard
abbrev pub IsSent : Routing → ℕ → ℕ → Type 0
IsSent to shard stream = (r : Arrival) → r.stream ≡ stream → IsTrue (to shard r)

-- where the shards answer together what one process does, a row of a stream that is dealt is answered so, and in the very order, by the
-- one shard to which it goes
abbrev pub OneShardReplies : Type 0
OneShardReplies =
    (q : QueryValue) (k : ℕ) (to : Routing) → IsWithinLimits q → AnswerTogether q k to
    → (history : List Arrival) (r : Arrival) → RowsKeep q history → RowKeeps q r → IsDealt k to r.stream
    → (shard : ℕ) → shard < k → IsTrue (to shard r) → new_answers q (share to shard history) r ≡ new_answers q history r

-- a query of which each stream is sent to a shard is answered by that shard alone
abbrev pub HomeAnswers : Type 0
HomeAnswers =
    (q : QueryValue) (to : Routing) (shard : ℕ) → ((s : ℕ) → Contains q.from s → IsSent to shard s)
    → (history : List Arrival) (r : Arrival) → new_answers q (share to shard history) r ≡ new_answers q history r

-- how often k shards answer a tuple, each over a history of its own
abbrev pub shards_answered : QueryValue → List ℤ → ℕ → (ℕ → List Arrival) → ℕ
shards_answered q t zero got = 0
shards_answered q t (suc k) got = shards_answered q t k got + answered q t [] (got k)

-- each of k shards has got its share of the history, stream by stream in any order
abbrev pub HaveTheirShares : Routing → ℕ → (ℕ → List Arrival) → List Arrival → Type 0
HaveTheirShares to k got history = (shard : ℕ) → shard < k → Reorders (got shard) (share to shard history)

-- over a whole history the shards answer each tuple as often as one process does
abbrev pub AnswerAlikeInAll : QueryValue → ℕ → Routing → Type 0
AnswerAlikeInAll q k to =
    (history : List Arrival) → RowsKeep q history → (got : ℕ → List Arrival) → HaveTheirShares to k got history
    → (t : List ℤ) → shards_answered q t k got ≡ answered q t [] history

abbrev pub SplitHistories : Type 0
SplitHistories = (q : QueryValue) (k : ℕ) (to : Routing) → IsWithinLimits q → q.distinct ≡ false → IsSplit q k to → AnswerAlikeInAll q k to

abbrev pub DisjointHistories : Type 0
DisjointHistories = (q : QueryValue) (k : ℕ) (to : Routing) → IsWithinLimits q → q.distinct ≡ true → IsDisjoint q k to → AnswerAlikeInAll q k to

-- with DISTINCT, where combinations are seen at all, one process answers once each tuple that some shard answers
abbrev pub DedupedHistories : Type 0
DedupedHistories =
    (q : QueryValue) (k : ℕ) (to : Routing) → IsWithinLimits q → q.distinct ≡ true → IsCovered q k to
    → (history : List Arrival) → RowsKeep q history → (got : ℕ → List Arrival) → HaveTheirShares to k got history
    → (t : List ℤ) → min 1 (shards_answered q t k got) ≡ answered q t [] history
