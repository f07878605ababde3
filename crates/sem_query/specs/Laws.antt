-- What holds of the parts of every query.
use Rattle.std.specs.Prelude.{◌≡◌, ℕ, ℤ, ◌<ℤ◌, ◌≤ℤ◌, ◌↔◌, ◌⊎◌, List, [], ◌∷◌, ◌++◌, Contains, IsTrue}
use Rattle.std.specs.List.{flat_map}
use Rattle.std.specs.declared.option.Option.{Option}
use Rattle.sem_query.specs.declared.atom.Attr.{Attr}
use Rattle.sem_query.specs.declared.part.Sign.{Sign}
use Rattle.sem_query.specs.declared.atom.Atom.{Atom}
use Rattle.sem_query.specs.Query.{QueryValue, attrs_of, consts_of}
use Rattle.sem_query.specs.Groups.{same_group, AreJoined}
use Rattle.sem_query.specs.Assignment.{Assignment, Holds, KeepsDomains}
use Rattle.sem_query.specs.Parts.{pairs, InPart, IsPart, AreParts}
use Rattle.sem_query.specs.Order.{IsBounded}
use Rattle.sem_query.specs.Links.{IsEquality, IsInequality}
use Rattle.sem_query.specs.Violation.{Failure, IsViolation}
use Rattle.sem_query.specs.Admission.{keeps_signs}

-- the same column stands for two exactly where a chain of comparisons of two columns leads from one to the other
abbrev pub GroupsAreComponents : Type 0
GroupsAreComponents = (atoms : List Atom) (a b : Attr) → IsTrue (same_group atoms a b) ↔ AreJoined atoms a b

-- a satisfying assignment that keeps to the domains has exactly one sign vector, and it is in the list of parts
abbrev pub HasOnePart : Type 0
HasOnePart =
    (q : QueryValue) (v : Assignment) → Holds q v → KeepsDomains q v
    → (s : List Sign) × InPart q s v
    × ((t : List Sign) → InPart q t v → t ≡ s)
    × ((parts : List (List Sign)) → AreParts q parts → Contains parts s)

-- two lists of the parts of a query are the same
abbrev pub HasOneListOfParts : Type 0
HasOneListOfParts = (q : QueryValue) (parts others : List (List Sign)) → AreParts q parts → AreParts q others → parts ≡ others

-- at the pairs of each stream the assignment has the signs of the part, and it meets the links of the part
pub record MeetsLinks (q : QueryValue) (s : List Sign) (v : Assignment) : Type 0 where
  pub signs : (place : ℕ) → IsTrue (keeps_signs place v (pairs q) s)
  pub equal : (x y : Attr) → IsEquality q s x y → v x ≡ v y
  pub less : (x y : Attr) → IsInequality q s x y → v x <ℤ v y

-- the assignments of a part are exactly those that keep to the domains, have its local signs and meet its links
abbrev pub LinksSuffice : Type 0
LinksSuffice = (q : QueryValue) (s : List Sign) → IsPart q s → (v : Assignment) → KeepsDomains q v → InPart q s v ↔ MeetsLinks q s v

-- the constants of the query, and the least and the greatest integers of its domains
abbrev pub ends_of : QueryValue → List ℤ
ends_of q = consts_of q.atoms ++ flat_map (λ d. d.lo ∷ d.hi ∷ []) q.domains

-- two ends enclose the column in every assignment of the part
pub record IsEnclosed (q : QueryValue) (s : List Sign) (a : Attr) : Type 0 where
  pub low : ℤ
  pub high : ℤ
  pub named_low : Contains (ends_of q) low
  pub named_high : Contains (ends_of q) high
  pub above : (v : Assignment) → InPart q s v → low ≤ℤ v a
  pub below : (v : Assignment) → InPart q s v → v a ≤ℤ high

-- a column is bounded exactly where two constants or ends of domains enclose it
abbrev pub EndsBound : Type 0
EndsBound = (q : QueryValue) (s : List Sign) → IsPart q s → (a : Attr) → IsBounded q s a ↔ IsEnclosed q s a

-- where no column has a domain, both sides of a nonredundant inequality are bounded, or neither is
abbrev pub SidesAreBoundedTogether : Type 0
SidesAreBoundedTogether =
    (q : QueryValue) → q.domains ≡ [] → (s : List Sign) → IsPart q s
    → (x y : Attr) → IsInequality q s x y
    → (IsBounded q s x × IsBounded q s y) ⊎ ((¬ IsBounded q s x) × (¬ IsBounded q s y))

-- two violations of a query are the same: one failure, or none
abbrev pub HasOneViolation : Type 0
HasOneViolation = (q : QueryValue) (r s : Option Failure) → IsViolation q r → IsViolation q s → r ≡ s
