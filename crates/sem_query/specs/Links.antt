-- The links of a part, which are its equalities and nonredundant inequalities between streams, and its references.
use Rattle.std.specs.Prelude.{◌≡◌, ◌≢◌, ℕ, ℤ, ◌⊎◌, List, Contains}
use Rattle.sem_query.specs.declared.atom.Attr.{Attr}
use Rattle.sem_query.specs.declared.atom.Element.{Element}
use Rattle.sem_query.specs.declared.atom.Element.TheVariants as element
use Rattle.sem_query.specs.declared.part.Sign.{Sign}
use Rattle.sem_query.specs.Query.{QueryValue, attrs_of}
use Rattle.sem_query.specs.Order.{IsElement, IsLess, IsEqual, IsBounded}

-- attributes of different streams
pub record AreAcross (q : QueryValue) (x y : Attr) : Type 0 where
  pub left : Contains (attrs_of q.atoms) x
  pub right : Contains (attrs_of q.atoms) y
  pub across : x.stream ≢ y.stream

-- an equality between streams
pub record IsEquality (q : QueryValue) (s : List Sign) (x y : Attr) : Type 0 where
  pub across : AreAcross q x y
  pub equal : IsEqual q s (element.Attr x) (element.Attr y)

-- x < y is redundant: an element of the query lies between, or a constant of it equals one side and parts it from the other
pub data IsRedundant (q : QueryValue) (s : List Sign) (x y : Attr) : Type 0 where
  between : (e : Element) → IsElement q e → IsLess q s (element.Attr x) e → IsLess q s e (element.Attr y) → IsRedundant q s x y
  equal_left : (k : ℤ) → IsElement q (element.Const k) → IsEqual q s (element.Attr x) (element.Const k) → IsLess q s (element.Const k) (element.Attr y) → IsRedundant q s x y
  equal_right : (k : ℤ) → IsElement q (element.Const k) → IsLess q s (element.Attr x) (element.Const k) → IsEqual q s (element.Const k) (element.Attr y) → IsRedundant q s x y

-- a nonredundant inequality between streams
pub record IsInequality (q : QueryValue) (s : List Sign) (x y : Attr) : Type 0 where
  pub across : AreAcross q x y
  pub less : IsLess q s (element.Attr x) (element.Attr y)
  pub needed : ¬ IsRedundant q s x y

-- an unbounded attribute on the left of a nonredundant inequality
pub record IsMinRef (q : QueryValue) (s : List Sign) (x : Attr) : Type 0 where
  pub unbounded : ¬ IsBounded q s x
  pub other : Attr
  pub inequality : IsInequality q s x other

-- an unbounded attribute on the right of a nonredundant inequality
pub record IsMaxRef (q : QueryValue) (s : List Sign) (y : Attr) : Type 0 where
  pub unbounded : ¬ IsBounded q s y
  pub other : Attr
  pub inequality : IsInequality q s other y

-- one column, or two attributes of one stream that are equal in every assignment of the part
pub record AreOneClass (q : QueryValue) (s : List Sign) (a b : Attr) : Type 0 where
  pub named : (a ≡ b) ⊎ (Contains (attrs_of q.atoms) a × Contains (attrs_of q.atoms) b)
  pub stream : a.stream ≡ b.stream
  pub equal : IsEqual q s (element.Attr a) (element.Attr b)

-- two references that are not of one class on one side
pub data AreTwoRefs (q : QueryValue) (s : List Sign) (a b : Attr) : Type 0 where
  two_mins : IsMinRef q s a → IsMinRef q s b → ¬ AreOneClass q s a b → AreTwoRefs q s a b
  two_maxes : IsMaxRef q s a → IsMaxRef q s b → ¬ AreOneClass q s a b → AreTwoRefs q s a b
  both : IsMinRef q s a → IsMaxRef q s b → AreTwoRefs q s a b

-- a stream has two references that are not of one class on one side
pub record HasTwoRefs (q : QueryValue) (s : List Sign) (stream : ℕ) : Type 0 where
  pub first : Attr
  pub second : Attr
  pub here : first.stream ≡ stream
  pub there : second.stream ≡ stream
  pub two : AreTwoRefs q s first second
