-- What bounds a column that no comparison names.
use Rattle.std.specs.Prelude.{◌≡◌, ◌↔◌, List, Contains}
use Rattle.sem_query.specs.declared.atom.Attr.{Attr}
use Rattle.sem_query.specs.declared.atom.Domain.{Domain}
use Rattle.sem_query.specs.declared.part.Sign.{Sign}
use Rattle.sem_query.specs.Query.{QueryValue, attrs_of, IsWithinLimits}
use Rattle.sem_query.specs.Parts.{IsPart}
use Rattle.sem_query.specs.Order.{IsBounded, IsLeast, IsGreatest}

-- the column has a domain in the query
pub record HasDomain (q : QueryValue) (a : Attr) : Type 0 where
  pub domain : Domain
  pub listed : Contains q.domains domain
  pub column : domain.attr ≡ a

-- in each part a column that no comparison names is bounded exactly where it has a domain, and its least and its greatest value are the ends of the domain
abbrev pub DomainsBoundUnnamed : Type 0
DomainsBoundUnnamed =
    (q : QueryValue) → IsWithinLimits q → (s : List Sign) → IsPart q s → (a : Attr) → ¬ Contains (attrs_of q.atoms) a
    → (IsBounded q s a ↔ HasDomain q a)
    × ((d : Domain) → Contains q.domains d → d.attr ≡ a → IsLeast q s a d.lo × IsGreatest q s a d.hi)
