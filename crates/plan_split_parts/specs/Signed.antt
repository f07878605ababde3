-- The split pairs of a query with signs.
use Rattle.std.specs.Prelude.{◌≡◌, List, length}
use Rattle.sem_query.specs.declared.part.Sign.{Sign}
use Rattle.sem_query.specs.Query.{QueryValue, IsWithinLimits}
use Rattle.plan_split_pairs.specs.Pairs.{split_pairs}
use Rattle.sem_whole.specs.Signed.{AreSignedPairs}

-- the split pairs of a query can have any signs, as many as there are pairs
abbrev pub SplitPairsAreSigned : Type 0
SplitPairsAreSigned = (q : QueryValue) → IsWithinLimits q → (ss : List Sign) → length (split_pairs q) ≡ length ss → AreSignedPairs q (split_pairs q) ss
