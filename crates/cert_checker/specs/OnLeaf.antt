-- What is read off the bounds of a good leaf.
use Rattle.std.specs.Prelude.{◌≡◌, ◌≢◌, ℤ, ◌+ℤ◌, ◌-ℤ◌, Option, List}
use Rattle.sem_query.specs.declared.atom.Attr.{Attr}
use Rattle.sem_query.specs.declared.atom.Element.{Element}
use Rattle.sem_query.specs.declared.atom.Element.TheVariants as element
use Rattle.sem_query.specs.declared.part.Sign.{Sign}
use Rattle.sem_query.specs.Query.{QueryValue, attrs_of, IsWithinLimits}
use Rattle.sem_query.specs.Order.{IsLess, IsEqual}
use Rattle.sem_query.specs.Links.{IsInequality, IsMinRef, IsMaxRef}
use Rattle.plan_constraints.specs.Nodes.{node_of, offset_of}
use Rattle.cert_format.specs.declared.line.Path.{Path}
use Rattle.cert_checker.specs.declared.leaf.Leaf.{Leaf}
use Rattle.cert_checker.specs.declared.links.Side.{Side}
use Rattle.cert_checker.specs.Branching.{Branching, plain_branching, constraints_at}
use Rattle.cert_checker.specs.Rules.{IsGoodLeaf}
use Rattle.cert_checker.specs.Bounds.{bound_at, IsAtMost, Tells}

-- there is a good leaf at these signs, and the table tells all bounds that its paths give
pub record IsTableOf (b : Branching) (signs : List Sign) (bounds : List (Option ℤ)) : Type 0 where
  pub paths : List Path
  pub good : IsGoodLeaf b signs paths
  pub tells : Tells (constraints_at b signs) paths bounds

-- that, in a tree of parts of a query within the limits
pub record IsLeafTable (q : QueryValue) (signs : List Sign) (bounds : List (Option ℤ)) : Type 0 where
  pub limits : IsWithinLimits q
  pub paths : List Path
  pub good : IsGoodLeaf (plain_branching q) signs paths
  pub tells : Tells (constraints_at (plain_branching q) signs) paths bounds

-- the same of a leaf of the code
abbrev pub IsLeaf : Leaf → Type 0
IsLeaf l = IsLeafTable l.query.now l.signs.now l.bounds.now

-- a bound says that x is at most so much above y
abbrev pub SaysAbove : QueryValue → List (Option ℤ) → Element → Element → ℤ → Type 0
SaysAbove q bounds x y by = IsAtMost (bound_at bounds (node_of (attrs_of q.atoms) x) (node_of (attrs_of q.atoms) y)) (offset_of y -ℤ offset_of x +ℤ by)

-- e lies between x and y
abbrev pub LiesBetween : QueryValue → List Sign → Attr → Attr → Element → Type 0
LiesBetween q s x y e = IsLess q s (element.Attr x) e × IsLess q s e (element.Attr y)

-- e equals x and is less than y
abbrev pub EqualsLeft : QueryValue → List Sign → Attr → Attr → Element → Type 0
EqualsLeft q s x y e = IsEqual q s (element.Attr x) e × IsLess q s e (element.Attr y)

-- x is less than e, and e equals y
abbrev pub EqualsRight : QueryValue → List Sign → Attr → Attr → Element → Type 0
EqualsRight q s x y e = IsLess q s (element.Attr x) e × IsEqual q s e (element.Attr y)

-- e lies between x and y, or equals one and parts it from the other
pub data KeepsApart (q : QueryValue) (s : List Sign) (x y : Attr) (e : Element) : Type 0 where
  middle : LiesBetween q s x y e → KeepsApart q s x y e
  left : EqualsLeft q s x y e → KeepsApart q s x y e
  right : EqualsRight q s x y e → KeepsApart q s x y e

-- the sides are of different streams, and the left one is less than the right one
abbrev pub IsLessAcross : QueryValue → List Sign → Attr → Attr → Type 0
IsLessAcross q s x y = (x.stream ≢ y.stream) × IsLess q s (element.Attr x) (element.Attr y)

-- a nonredundant inequality between streams, the first column on this side of it and the second on the other
abbrev pub IsLinked : QueryValue → List Sign → Side → Attr → Attr → Type 0
IsLinked q s Side.Min a b = IsInequality q s a b
IsLinked q s Side.Max a b = IsInequality q s b a

-- a reference on this side
abbrev pub IsRef : QueryValue → List Sign → Side → Attr → Type 0
IsRef q s Side.Min a = IsMinRef q s a
IsRef q s Side.Max a = IsMaxRef q s a

-- the other side
abbrev pub opposite : Side → Side
opposite Side.Min = Side.Max
opposite Side.Max = Side.Min

-- two columns of one stream that are not equal in every assignment of the part
abbrev pub IsOther : QueryValue → List Sign → Attr → Attr → Type 0
IsOther q s a b = (a.stream ≡ b.stream) × ¬ IsEqual q s (element.Attr a) (element.Attr b)

-- beside a reference a on this side, b is one of its stream on the other side
abbrev pub IsAcrossRef : QueryValue → List Sign → Side → Attr → Attr → Type 0
IsAcrossRef q s side a b = (a.stream ≡ b.stream) × IsRef q s (opposite side) b

-- beside a reference a on this side, b is one of its stream on the same side that is not of its class
abbrev pub IsOtherRef : QueryValue → List Sign → Side → Attr → Attr → Type 0
IsOtherRef q s side a b = IsOther q s a b × IsRef q s side b

-- beside a reference a on this side, b is a second one of its stream
pub data IsSecond (q : QueryValue) (s : List Sign) (side : Side) (a b : Attr) : Type 0 where
  across : IsAcrossRef q s side a b → IsSecond q s side a b
  beside : IsOtherRef q s side a b → IsSecond q s side a b
