-- What is said of the ranges of a query.
use Rattle.std.proofs.Common.{◌≡◌, Bool, Option, None, Some}
use Rattle.sem_query.specs.declared.decision.Which.{Which}
use Rattle.sem_query.specs.Query.{QueryValue}
use Rattle.sem_sharding.specs.Keys.{Keys}
use Rattle.adv_key_ranges.specs.Accepted.{IsLimitOf}
use Rattle.adv_key_ranges.specs.Ranges.{AreRanges}

-- no limit refuses it
pub no-limit : (shared : Bool) (q : QueryValue) (keys : Keys) (limit : Option Which) → IsLimitOf shared q limit → limit ≡ None → AreRanges shared q keys None
no-limit shared q keys None h e = λ which ends c. h which c.refused
no-limit shared q keys (Some own) h e = absurd cc
