-- What is said of the ranges of a query by its keys.
use Rattle.std.specs.Prelude.{◌≡◌, Bool}
use Rattle.std.specs.declared.option.Option.{Option}
use Rattle.std.specs.declared.option.Option.TheVariants.{None, Some}
use Rattle.sem_query.specs.declared.decision.Which.{Which}
use Rattle.sem_query.specs.Query.{QueryValue}
use Rattle.sem_query.specs.Verdict.{limit}
use Rattle.sem_forms.specs.Forms.{IsFormVerdict}
use Rattle.sem_sharding.specs.Keys.{Keys}
use Rattle.adv_mends.specs.declared.mend.Ends.{Ends}
use Rattle.adv_key_ranges.specs.declared.ranges.Ranges.{Ranges}
use Rattle.adv_key_ranges.specs.Keys.{read_keys, key_range}
use Rattle.adv_key_ranges.specs.Least.{IsLeastFound}

-- a limit refuses the query, and these are the ends of the values that the domains of its keys have in common
pub record IsCut (shared : Bool) (q : QueryValue) (keys : Keys) (which : Which) (ends : Ends) : Type 0 where
  pub refused : IsFormVerdict shared q 16384 (limit which)
  pub range : key_range q (read_keys q keys) ≡ Some ends

-- the least number of ranges of these values, or that there is nothing to cut
abbrev pub AreRanges : Bool → QueryValue → Keys → Option Ranges → Type 0
AreRanges shared q keys None = (which : Which) (ends : Ends) → ¬ IsCut shared q keys which ends
AreRanges shared q keys (Some r) = IsCut shared q keys r.which r.ends × IsLeastFound shared q (read_keys q keys) r.ends r.least
