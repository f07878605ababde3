-- That the premises of the laws on shards are needed: the converses.
use Rattle.std.specs.Prelude.{◌≡◌, ℕ, ◌<◌, true, false, ℤ}
use Rattle.sem_query.specs.Query.{QueryValue, IsWithinLimits}
use Rattle.sem_query.specs.Assignment.{Assignment}
use Rattle.sem_sharding.specs.Shards.{Routing, IsSplit, IsDisjoint, AnswerTogether}
use Rattle.sem_sharding.specs.Keys.{Keys, by_key, Fits, AreEqualKeys, TellsKeys}

-- without DISTINCT the shards answer together what one process does only where the routing is a split
abbrev pub SplitIsNeeded : Type 0
SplitIsNeeded = (q : QueryValue) (k : ℕ) (to : Routing) → IsWithinLimits q → q.distinct ≡ false → AnswerTogether q k to → IsSplit q k to

-- and with DISTINCT only where it keeps combinations of one tuple together
abbrev pub DisjointIsNeeded : Type 0
DisjointIsNeeded = (q : QueryValue) (k : ℕ) (to : Routing) → IsWithinLimits q → q.distinct ≡ true → AnswerTogether q k to → IsDisjoint q k to

-- keys that split a query between two shards, wherever each value is put, are equal, if anything counts
abbrev pub EqualKeysAreNeeded : Type 0
EqualKeysAreNeeded =
    (q : QueryValue) (keys : Keys) → IsWithinLimits q → ((put : ℤ → ℕ) → ((z : ℤ) → put z < 2) → IsSplit q 2 (by_key keys put))
    → (v : Assignment) → Fits q v → AreEqualKeys q keys

-- and if they keep combinations of one tuple together, the tuple tells them
abbrev pub ToldKeysAreNeeded : Type 0
ToldKeysAreNeeded =
    (q : QueryValue) (keys : Keys) → IsWithinLimits q → ((put : ℤ → ℕ) → ((z : ℤ) → put z < 2) → IsDisjoint q 2 (by_key keys put))
    → TellsKeys q keys
