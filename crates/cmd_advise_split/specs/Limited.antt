-- Queries that are known with the limit that refuses them.
use Rattle.adv_key_choices.specs.declared.choice.KeyedQuery.{KeyedQuery}
use Rattle.adv_key_choices.specs.Choices.{IsKeyed}
use Rattle.adv_key_ranges.specs.Accepted.{IsLimitOf}

-- the limit is the one that refuses the query in a session with no other one
abbrev pub IsLimited : KeyedQuery → Type 0
IsLimited k = IsLimitOf k.shared k.query k.limit

-- and the classes are those of its columns
pub record IsKnown (k : KeyedQuery) : Type 0 where
  pub keyed : IsKeyed k
  pub limited : IsLimited k
