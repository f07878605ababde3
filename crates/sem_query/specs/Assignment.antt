-- Assignments of integers to columns, and what it means that a comparison holds of one.
use Rattle.std.specs.Prelude.{ℤ, int_lt, Bool, not, ◌&&◌, IsTrue, map, List, Contains}
use Rattle.std.specs.List.{list_all}
use Rattle.std.specs.Ordering.{int_eq}
use Rattle.sem_query.specs.declared.atom.Attr.{Attr}
use Rattle.sem_query.specs.declared.atom.Domain.{Domain}
use Rattle.sem_query.specs.declared.atom.Element.{Element}
use Rattle.sem_query.specs.declared.atom.Element.TheVariants as element
use Rattle.sem_query.specs.declared.atom.Op.{Op}
use Rattle.sem_query.specs.declared.atom.Op.TheVariants.{Lt, Eq, Gt, Le, Ge, Ne}
use Rattle.sem_query.specs.declared.atom.Atom.{Atom}
use Rattle.sem_query.specs.Query.{QueryValue}

-- an integer for each column
abbrev pub Assignment : Type 0
Assignment = Attr → ℤ

-- the value of an element
abbrev pub value : Element → Assignment → ℤ
value (element.Attr a) v = v a
value (element.Const k) v = k

abbrev pub compares : Op → ℤ → ℤ → Bool
compares Lt x y = int_lt x y
compares Eq x y = int_eq x y
compares Gt x y = int_lt y x
compares Le x y = not (int_lt y x)
compares Ge x y = not (int_lt x y)
compares Ne x y = not (int_eq x y)

-- whether the comparison holds
abbrev pub meets : Assignment → Atom → Bool
meets v t = compares t.op (value t.left v) (value t.right v)

-- whether the condition of the query holds: all its comparisons do
abbrev pub holds : QueryValue → Assignment → Bool
holds q v = list_all (meets v) q.atoms

-- whether an integer lies in a domain
abbrev pub lies_in : Domain → ℤ → Bool
lies_in d x = not (int_lt x d.lo) && not (int_lt d.hi x)

-- whether the assignment keeps to the domains of the query
abbrev pub keeps_domains : QueryValue → Assignment → Bool
keeps_domains q v = list_all (λ d. lies_in d (v d.attr)) q.domains

-- the column that the element is, if it is one, is among these
abbrev pub IsAmong : List Attr → Element → Type 0
IsAmong attrs (element.Attr a) = Contains attrs a
IsAmong attrs (element.Const k) = Unit {0}

-- the columns that the comparison names are among these
pub record AreAmong (attrs : List Attr) (t : Atom) : Type 0 where
  pub left : IsAmong attrs t.left
  pub right : IsAmong attrs t.right

-- the comparison holds of the assignment
abbrev pub AtomHolds : Assignment → Atom → Type 0
AtomHolds v t = IsTrue (meets v t)

-- the condition of the query holds of the assignment
abbrev pub Holds : QueryValue → Assignment → Type 0
Holds q v = IsTrue (holds q v)

-- the assignment keeps to the domains of the query
abbrev pub KeepsDomains : QueryValue → Assignment → Type 0
KeepsDomains q v = IsTrue (keeps_domains q v)

-- the values of the selected columns
abbrev pub projected : QueryValue → Assignment → List ℤ
projected q v = map v q.select
