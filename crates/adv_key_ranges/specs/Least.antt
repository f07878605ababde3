-- The least number of ranges with which a query is accepted in each.
use Rattle.std.specs.Prelude.{◌≡◌, ℕ, ◌<◌, ◌≤◌, Bool, List}
use Rattle.sem_query.specs.declared.atom.Attr.{Attr}
use Rattle.sem_query.specs.Query.{QueryValue}
use Rattle.adv_mends.specs.declared.mend.Ends.{Ends}
use Rattle.adv_key_ranges.specs.declared.searching.Least.{Least}
use Rattle.adv_key_ranges.specs.declared.searching.Least.TheVariants.{Number, NoneUpTo}
use Rattle.adv_key_ranges.specs.Accepted.{IsAccepted}
use Rattle.adv_key_ranges.specs.Cutting.{range_at, most_ranges}
use Rattle.adv_key_ranges.specs.Narrowed.{narrowed}

-- the query is accepted with some columns in the i-th of k ranges
abbrev pub IsAcceptedAt : Bool → QueryValue → List Attr → Ends → ℕ → ℕ → Type 0
IsAcceptedAt shared q columns ends k i = IsAccepted shared (narrowed columns (range_at ends k i) q)

-- it is accepted in each of k ranges
abbrev pub AreAllAccepted : Bool → QueryValue → List Attr → Ends → ℕ → Type 0
AreAllAccepted shared q columns ends k = (i : ℕ) → i < k → IsAcceptedAt shared q columns ends k i

-- it is accepted in each of k ranges, and for no smaller number in each
pub record IsLeastRanges (shared : Bool) (q : QueryValue) (columns : List Attr) (ends : Ends) (k : ℕ) : Type 0 where
  pub some : 0 < k
  pub accepted : AreAllAccepted shared q columns ends k
  pub least : (j : ℕ) → 0 < j → j < k → ¬ AreAllAccepted shared q columns ends j

-- for no number from 1 to m it is accepted in each
abbrev pub IsNoneUpTo : Bool → QueryValue → List Attr → Ends → ℕ → Type 0
IsNoneUpTo shared q columns ends m = (j : ℕ) → 0 < j → j ≤ m → ¬ AreAllAccepted shared q columns ends j

-- the least number of ranges, which is one of those that are tried, or that none of these is
abbrev pub IsLeastFound : Bool → QueryValue → List Attr → Ends → Least → Type 0
IsLeastFound shared q columns ends (Number k) = IsLeastRanges shared q columns ends k × (k ≤ most_ranges ends)
IsLeastFound shared q columns ends (NoneUpTo m) = IsNoneUpTo shared q columns ends m × (m ≡ most_ranges ends)
