-- How an element parts two columns.
use Rattle.std.specs.Prelude.{List}
use Rattle.sem_query.specs.declared.atom.Attr.{Attr}
use Rattle.sem_query.specs.declared.atom.Element.{Element}
use Rattle.sem_query.specs.declared.atom.Element.TheVariants as element
use Rattle.sem_query.specs.declared.part.Sign.{Sign}
use Rattle.sem_query.specs.Query.{QueryValue}
use Rattle.sem_query.specs.Order.{IsLess, IsEqual}

-- e lies between x and y
abbrev pub LiesBetween : QueryValue → List Sign → Attr → Attr → Element → Type 0
LiesBetween q s x y e = IsLess q s (element.Attr x) e × IsLess q s e (element.Attr y)

-- e equals x and is less than y
abbrev pub EqualsLeft : QueryValue → List Sign → Attr → Attr → Element → Type 0
EqualsLeft q s x y e = IsEqual q s (element.Attr x) e × IsLess q s e (element.Attr y)

-- x is less than e, and e equals y
abbrev pub EqualsRight : QueryValue → List Sign → Attr → Attr → Element → Type 0
EqualsRight q s x y e = IsLess q s (element.Attr x) e × IsEqual q s e (element.Attr y)

-- e lies between x and y, or equals one and parts it from the other
pub data Parts (q : QueryValue) (s : List Sign) (x y : Attr) (e : Element) : Type 0 where
  middle : LiesBetween q s x y e → Parts q s x y e
  left : EqualsLeft q s x y e → Parts q s x y e
  right : EqualsRight q s x y e → Parts q s x y e
