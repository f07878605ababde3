-- What holds in every assignment of a part: the order of elements, and the bounds of columns.
use Rattle.std.specs.Prelude.{◌≡◌, ℤ, ◌<ℤ◌, ◌≤ℤ◌, List, Contains}
use Rattle.sem_query.specs.declared.atom.Attr.{Attr}
use Rattle.sem_query.specs.declared.atom.Element.{Element}
use Rattle.sem_query.specs.declared.atom.Element.TheVariants as element
use Rattle.sem_query.specs.declared.part.Sign.{Sign}
use Rattle.sem_query.specs.Query.{QueryValue, attrs_of, consts_of}
use Rattle.sem_query.specs.Assignment.{Assignment, value}
use Rattle.sem_query.specs.Parts.{InPart}

-- an attribute or a constant of the query
abbrev pub IsElement : QueryValue → Element → Type 0
IsElement q (element.Attr a) = Contains (attrs_of q.atoms) a
IsElement q (element.Const k) = Contains (consts_of q.atoms) k

-- x is less than y in every assignment of the part
pub record IsLess (q : QueryValue) (s : List Sign) (x y : Element) : Type 0 where
  pub less : (v : Assignment) → InPart q s v → value x v <ℤ value y v

-- x equals y in every assignment of the part
pub record IsEqual (q : QueryValue) (s : List Sign) (x y : Element) : Type 0 where
  pub equal : (v : Assignment) → InPart q s v → value x v ≡ value y v

-- two integers enclose the values of the column over all assignments of the part
pub record IsBounded (q : QueryValue) (s : List Sign) (a : Attr) : Type 0 where
  pub low : ℤ
  pub high : ℤ
  pub above : (v : Assignment) → InPart q s v → low ≤ℤ v a
  pub below : (v : Assignment) → InPart q s v → v a ≤ℤ high

-- the least value of the column over all assignments of the part
pub record IsLeast (q : QueryValue) (s : List Sign) (a : Attr) (low : ℤ) : Type 0 where
  pub at : Assignment
  pub inside : InPart q s at
  pub reached : at a ≡ low
  pub above : (v : Assignment) → InPart q s v → low ≤ℤ v a

-- the greatest value of the column over all assignments of the part
pub record IsGreatest (q : QueryValue) (s : List Sign) (a : Attr) (high : ℤ) : Type 0 where
  pub at : Assignment
  pub inside : InPart q s at
  pub reached : at a ≡ high
  pub below : (v : Assignment) → InPart q s v → v a ≤ℤ high
