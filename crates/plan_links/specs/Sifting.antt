-- What is left of a list by a property.
use Rattle.std.specs.Prelude.{List, [], ◌∷◌, ◌++◌, map, IsTrue, Contains, ◌↔◌, ◌≢◌}
use Rattle.sem_query.specs.declared.atom.Element.TheVariants as element
use Rattle.sem_query.specs.Order.{IsLess}
use Rattle.sem_query.specs.declared.atom.Attr.{Attr}
use Rattle.sem_query.specs.declared.plan.Link.{Link}
use Rattle.sem_query.specs.declared.part.Sign.{Sign}
use Rattle.sem_query.specs.Query.{QueryValue, attr_lt, attrs_of}
use Rattle.sem_query.specs.Plan.{link}
use Rattle.sem_query.specs.Links.{IsEquality, IsInequality}

-- the second list has the elements of the first that have the property, in their order
pub data Sifts {X : Type 0} (P : X → Type 0) : List X → List X → Type 0 where
  done : Sifts P [] []
  kept : {x : X} {xs ys : List X} → P x → Sifts P xs ys → Sifts P (x ∷ xs) (x ∷ ys)
  dropped : {x : X} {xs ys : List X} → ¬ P x → Sifts P xs ys → Sifts P (x ∷ xs) ys

-- each of the first columns with each of the second
abbrev pub links_among : List Attr → List Attr → List Link
links_among [] ys = []
links_among (x ∷ xs) ys = map (link x) ys ++ links_among xs ys

-- the sides are of different streams
abbrev pub IsAcross : Link → Type 0
IsAcross l = l.left.stream ≢ l.right.stream

-- the links, in order, of each attribute with each that is of another stream
abbrev pub AreLinksAcross : QueryValue → List Link → Type 0
AreLinksAcross q links = Sifts IsAcross (links_among (attrs_of q.atoms) (attrs_of q.atoms)) links

-- an equality between streams with the earlier attribute on the left
abbrev pub IsOrderedEquality : QueryValue → List Sign → Link → Type 0
IsOrderedEquality q s l = IsTrue (attr_lt l.left l.right) × IsEquality q s l.left l.right

-- a nonredundant inequality between streams
abbrev pub IsOrderedInequality : QueryValue → List Sign → Link → Type 0
IsOrderedInequality q s l = IsInequality q s l.left l.right

-- the sides are of different streams, and the left one is less than the right one
abbrev pub IsLessAcross : QueryValue → List Sign → Link → Type 0
IsLessAcross q s l = (l.left.stream ≢ l.right.stream) × IsLess q s (element.Attr l.left) (element.Attr l.right)

-- the links are the nonredundant inequalities between streams
pub record AreInequalities (q : QueryValue) (s : List Sign) (links : List Link) : Type 0 where
  pub members : (x y : Attr) → Contains links (link x y) ↔ IsInequality q s x y
