-- The pairs of integers that are tried as the ends of columns: the widest, and two pairs close together, below and above all integers that a query names.
use Rattle.std.specs.Prelude.{ℤ, pos, neg_ℤ, ◌+ℤ◌, ◌-ℤ◌, int_lt, if◌then◌else◌, List}
use Rattle.std.specs.List.{fold}
use Rattle.sem_query.specs.declared.atom.Attr.{Attr}
use Rattle.sem_query.specs.declared.atom.Domain.{Domain}
use Rattle.sem_query.specs.Query.{QueryValue, consts_of, IsWithinLimits}
use Rattle.adv_mends.specs.declared.mend.Ends.{Ends}
use Rattle.adv_mends.specs.declared.mend.Mend.{Mend}
use Rattle.adv_mends.specs.declared.mend.ChangeKind.{ChangeKind}
use Rattle.adv_mends.specs.Meeting.{Meets}
use Rattle.adv_mends.specs.Mended.{mended, on, widest_ends, Mends}

-- an interval that reaches to an integer
abbrev pub reaching : Ends → ℤ → Ends
reaching ends k = record { lo = if int_lt k ends.lo then k else ends.lo; hi = if int_lt ends.hi k then k else ends.hi }

-- and to both ends of a domain
abbrev pub reaching_domain : Ends → Domain → Ends
reaching_domain ends d = reaching (reaching ends d.lo) d.hi

-- the least interval with 0 and all integers that a query names: its constants and the ends of its domains
unfoldable pub span : QueryValue → Ends
span q = fold reaching_domain (fold reaching (record { lo = pos 0; hi = pos 0 }) (consts_of q.atoms)) q.domains

-- so much below an integer, or the least integer of 15 digits
abbrev pub lowered : ℤ → ℤ → ℤ
lowered k n = if int_lt k (n -ℤ pos 999999999999999) then neg_ℤ (pos 999999999999999) else k -ℤ n

-- so much above an integer, or the greatest integer of 15 digits
abbrev pub raised : ℤ → ℤ → ℤ
raised k n = if int_lt (pos 999999999999999 -ℤ n) k then pos 999999999999999 else k +ℤ n

-- two integers below an interval, and two above it, with 12 integers between the two and 12 between them and the interval
unfoldable pub below : Ends → Ends
below ends = record { lo = lowered ends.lo (pos 26); hi = lowered ends.lo (pos 13) }

unfoldable pub above : Ends → Ends
above ends = record { lo = raised ends.hi (pos 13); hi = raised ends.hi (pos 26) }

-- with the change the query is within the limits of a statement and meets all conditions, whether it has a part or not
pub record StaysMet (mend : Mend) (q : QueryValue) : Type 0 where
  pub limits : IsWithinLimits (mended mend q)
  pub meets : Meets (mended mend q)

-- the columns of a set mend the query with the widest ends, and no condition refuses it with the two other pairs
pub record MendsBy (kind : ChangeKind) (set : List Attr) (q : QueryValue) : Type 0 where
  pub widest : Mends (on kind widest_ends set) q
  pub below : StaysMet (on kind (below (span q)) set) q
  pub above : StaysMet (on kind (above (span q)) set) q
