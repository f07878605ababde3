-- The split parts of a query: the signs that its satisfying assignments give to its split pairs.
use Rattle.std.specs.Prelude.{◌≡◌, ℕ, ◌<◌, IsTrue, List, map, length, All, AllPairs, Contains}
use Rattle.sem_query.specs.declared.part.Sign.{Sign}
use Rattle.sem_query.specs.Query.{QueryValue}
use Rattle.sem_query.specs.Assignment.{Assignment, Holds, KeepsDomains}
use Rattle.sem_query.specs.Parts.{sign_at, signs_lt}
use Rattle.plan_split_pairs.specs.Pairs.{split_pairs}

-- some assignment that satisfies the query within its domains has these signs
pub record IsSplitPart (q : QueryValue) (signs : List Sign) : Type 0 where
  pub one : Assignment
  pub holds : Holds q one
  pub domains : KeepsDomains q one
  pub has : map (sign_at one) (split_pairs q) ≡ signs

-- the list of all of them, ascending
pub record AreSplitParts (q : QueryValue) (list : List (List Sign)) : Type 0 where
  pub ascending : AllPairs (λ s t. IsTrue (signs_lt s t)) list
  pub each : All (IsSplitPart q) list
  pub all : (signs : List Sign) → IsSplitPart q signs → Contains list signs

-- there are more than n
pub record HasMoreSplitParts (q : QueryValue) (n : ℕ) : Type 0 where
  pub some : List (List Sign)
  pub ascending : AllPairs (λ s t. IsTrue (signs_lt s t)) some
  pub each : All (IsSplitPart q) some
  pub more : n < length some
