-- What is told of a part.
use Rattle.std.specs.Prelude.{◌≡◌, ℕ, ℤ, List, AllPairs, Contains, ◌↔◌, IsTrue, Option, None, Some, slice_get, slice_index_or}
use Rattle.std.specs.List.{AllZip}
use Rattle.sem_query.specs.declared.atom.Attr.{Attr}
use Rattle.sem_query.specs.declared.part.Sign.{Sign}
use Rattle.sem_query.specs.Query.{QueryValue, attrs_of, attr_lt}
use Rattle.sem_query.specs.Order.{IsBounded, IsLeast, IsGreatest}
use Rattle.sem_query.specs.Links.{IsEquality, IsInequality, IsMinRef, IsMaxRef}
use Rattle.sem_query.specs.Plan.{AreOneClass, NamesClass, link, link_lt}
use Rattle.plan_links.specs.declared.range.Range.{Range}
use Rattle.plan_links.specs.declared.types.Refs.{Refs}

-- the least and the greatest value of an attribute, or none where it is not bounded
abbrev pub IsRange : QueryValue → List Sign → Attr → Option Range → Type 0
IsRange q s a None = ¬ IsBounded q s a
IsRange q s a (Some r) = IsLeast q s a r.lo × IsGreatest q s a r.hi

-- the same of the attribute at a place
abbrev pub IsRangeAt : QueryValue → List Sign → ℕ → Option Range → Type 0
IsRangeAt q s i r = (d : Attr) → IsRange q s (slice_index_or (attrs_of q.atoms) i d) r

-- the range between two bounds, where both are there
abbrev pub between_of : Option ℤ → Option ℤ → Option Range
between_of None high = None
between_of (Some lo) None = None
between_of (Some lo) (Some hi) = Some record { lo = lo; hi = hi }

-- the place of the attribute that names the class of another
pub record IsClassPlace (q : QueryValue) (s : List Sign) (a : Attr) (place : ℕ) : Type 0 where
  pub name : Attr
  pub at : slice_get (attrs_of q.atoms) place ≡ Some name
  pub names : NamesClass q s name
  pub inside : AreOneClass q s name a

-- the ranges and classes of the attributes, the links of the part, an equality once and the earlier attribute first, and the
-- references
pub record AreRefs (q : QueryValue) (s : List Sign) (refs : Refs) : Type 0 where
  pub ranges : AllZip (IsRange q s) (attrs_of q.atoms) refs.ranges.items
  pub class : AllZip (IsClassPlace q s) (attrs_of q.atoms) refs.class.items
  pub equal : (x y : Attr) → Contains refs.equal.items (link x y) ↔ (IsTrue (attr_lt x y) × IsEquality q s x y)
  pub equal_ascends : AllPairs (λ x y. IsTrue (link_lt x y)) refs.equal.items
  pub less : (x y : Attr) → Contains refs.less.items (link x y) ↔ IsInequality q s x y
  pub less_ascends : AllPairs (λ x y. IsTrue (link_lt x y)) refs.less.items
  pub min_ref : (a : Attr) → Contains refs.min_ref.items a ↔ IsMinRef q s a
  pub min_ref_ascends : AllPairs (λ a b. IsTrue (attr_lt a b)) refs.min_ref.items
  pub max_ref : (a : Attr) → Contains refs.max_ref.items a ↔ IsMaxRef q s a
  pub max_ref_ascends : AllPairs (λ a b. IsTrue (attr_lt a b)) refs.max_ref.items
