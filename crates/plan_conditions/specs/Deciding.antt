-- Columns among columns and domains, and what the decision on a query looks for.
use Rattle.std.specs.Prelude.{◌≡◌, ℕ, ◌<◌, ◌⊎◌, List, Contains, length, slice_index_or, slice_get}
use Rattle.std.specs.declared.option.Option.{Option}
use Rattle.std.specs.declared.option.Option.TheVariants.{None, Some}
use Rattle.sem_query.specs.declared.atom.Attr.{Attr}
use Rattle.sem_query.specs.declared.atom.Domain.{Domain}
use Rattle.sem_query.specs.declared.part.Sign.{Sign}
use Rattle.sem_query.specs.declared.condition.Condition.{Condition}
use Rattle.sem_query.specs.Query.{QueryValue, attrs_of}
use Rattle.sem_query.specs.Links.{AreOneClass, IsEquality}
use Rattle.sem_query.specs.Violation.{Breaks}

-- the place of a column among some, or none where it is not there
abbrev pub IsPlace : List Attr → Attr → Option ℕ → Type 0
IsPlace xs a None = ¬ Contains xs a
IsPlace xs a (Some i) = (i < length xs) × ((d : Attr) → slice_index_or xs i d ≡ a)

-- the domain of a column, or none where it has none
abbrev pub IsDomainOf : List Domain → Attr → Option Domain → Type 0
IsDomainOf ds a None = (d : Domain) → Contains ds d → ¬ (d.attr ≡ a)
IsDomainOf ds a (Some d) = Contains ds d × (d.attr ≡ a)

-- each of the columns is an attribute of the query
pub record AreNamedAll (q : QueryValue) (xs : List Attr) : Type 0 where
  pub named : (a : Attr) → Contains xs a → Contains (attrs_of q.atoms) a

-- two columns of one stream that are not of one class
abbrev pub IsOther : QueryValue → List Sign → Attr → Attr → Type 0
IsOther q s a b = (a.stream ≡ b.stream) × ¬ AreOneClass q s a b

-- a side of an equality between streams
abbrev pub IsInEquality : QueryValue → List Sign → Attr → Type 0
IsInEquality q s a = (b : Attr) × (IsEquality q s a b ⊎ IsEquality q s b a)

-- no part before a place breaks a condition
pub record NoneBefore (q : QueryValue) (parts : List (List Sign)) (i : ℕ) : Type 0 where
  pub none : (k : ℕ) (s : List Sign) → k < i → slice_get parts k ≡ Some s → (c : Condition) (a : Attr) → ¬ Breaks q s c a
