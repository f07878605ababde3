-- Parts that leave open which side of a `<>` between streams is less, and what their orders and equalities break.
use Rattle.std.specs.Prelude.{◌≡◌, IsFalse, List, not, map, filter}
use Rattle.sem_query.specs.declared.atom.Atom.{Atom}
use Rattle.sem_query.specs.declared.atom.Attr.{Attr}
use Rattle.sem_query.specs.declared.atom.Element.TheVariants as element
use Rattle.sem_query.specs.declared.condition.Condition.{Condition}
use Rattle.sem_query.specs.declared.part.Pair.{Pair}
use Rattle.sem_query.specs.declared.part.Sign.{Sign}
use Rattle.sem_query.specs.Query.{QueryValue, is_filter, IsWithinLimits}
use Rattle.sem_query.specs.Assignment.{Assignment, Holds, KeepsDomains}
use Rattle.sem_query.specs.Parts.{sign_at}
use Rattle.plan_split_pairs.specs.Pairs.{is_unlike, split_pairs}
use Rattle.sem_whole.specs.Links.{are_across, AreLinks}
use Rattle.sem_whole.specs.Signed.{with_signs}
use Rattle.sem_whole.specs.Whole.{WholeBreaks}
use Rattle.sem_lower_bounds.specs.Within.{NeedsStatesWithin}

-- the split pairs of columns of one stream, and of columns with integers
abbrev pub near_pairs : QueryValue → List Pair
near_pairs q = filter (λ p. not (are_across (element.Attr p.left) p.right)) (split_pairs q)

-- some assignment that satisfies the query within its domains gives them these signs
pub record IsNearPart (q : QueryValue) (signs : List Sign) : Type 0 where
  pub one : Assignment
  pub holds : Holds q one
  pub domains : KeepsDomains q one
  pub has : map (sign_at one) (near_pairs q) ≡ signs

-- the query of a near part: what its signs say stands before the comparisons of the query
abbrev pub near_query : QueryValue → List Sign → QueryValue
near_query q ss = with_signs (near_pairs q) ss q

-- the links but `<>`
abbrev pub orders : List Atom → List Atom
orders links = filter (λ t. not (is_unlike t.op)) links

-- a near part breaks a condition by its orders and equalities alone
pub record NearBreak (q : QueryValue) : Type 0 where
  pub signs : List Sign
  pub is : IsNearPart q signs
  pub links : List Atom
  pub are : AreLinks (near_query q signs) links
  pub condition : Condition
  pub attr : Attr
  pub breaks : WholeBreaks (near_query q signs) (orders links) condition attr

-- then the query needs many states on rows within its domains, with DISTINCT or without, whatever stands between its streams
abbrev pub NearPartsNeedStates : Type 0
NearPartsNeedStates = (q : QueryValue) → IsWithinLimits q → IsFalse (is_filter q) → NearBreak q → NeedsStatesWithin q
