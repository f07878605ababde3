-- Which of the comparisons of a query let values move.
use Rattle.std.specs.Prelude.{◌≢◌, ◌⊎◌, Bool, true, false, List, IsTrue, IsFalse}
use Rattle.std.specs.List.{Any}
use Rattle.sem_query.specs.declared.atom.Atom.{Atom}
use Rattle.sem_query.specs.declared.atom.Attr.{Attr}
use Rattle.sem_query.specs.declared.atom.Element.{Element}
use Rattle.sem_query.specs.declared.atom.Element.TheVariants as element
use Rattle.sem_query.specs.declared.atom.Op.{Op}
use Rattle.sem_query.specs.Query.{QueryValue}
use Rattle.sem_whole.specs.System.{Difference}
use Rattle.sem_split_bounds.specs.Steps.{NoTop, NoBottom}
use Rattle.sem_split_bounds.specs.Moving.{LackOneEnd, MoveApart}

-- a column lacks an end
unfoldable pub LacksEnd : List Difference → Attr → Type 0
LacksEnd ds a = NoTop ds a ⊎ NoBottom ds a

-- whether an operator says that its left side is at most its right one
abbrev pub leads_right : Op → Bool
leads_right Op.Lt = true
leads_right Op.Eq = true
leads_right Op.Gt = false
leads_right Op.Le = true
leads_right Op.Ge = false
leads_right Op.Ne = false

-- whether it says that its right side is at most its left one
abbrev pub leads_left : Op → Bool
leads_left Op.Lt = false
leads_left Op.Eq = true
leads_left Op.Gt = true
leads_left Op.Le = false
leads_left Op.Ge = true
leads_left Op.Ne = false

-- so it is of what one of the two says
abbrev pub OfOneWay : (Attr → Attr → Type 0) → Attr → Op → Attr → Type 0
OfOneWay P a o b = (IsTrue (leads_right o) × P a b) ⊎ (IsTrue (leads_left o) × P b a)

-- so it is of what a comparison of columns of two streams says
abbrev pub OfStep : (Attr → Attr → Type 0) → Element → Op → Element → Type 0
OfStep P (element.Attr a) o (element.Attr b) = (a.stream ≢ b.stream) × OfOneWay P a o b
OfStep P (element.Attr a) o (element.Const k) = ⊥
OfStep P (element.Const k) o y = ⊥

-- a difference moves apart with one that a comparison says
abbrev pub MovesWith : List Difference → Attr → Attr → Atom → Type 0
MovesWith ds x y t = OfStep (MoveApart ds x y) t.left t.op t.right

-- with one that one of some comparisons says
abbrev pub MovesWithOne : List Difference → List Atom → Attr → Attr → Type 0
MovesWithOne ds ts x y = Any (MovesWith ds x y) ts

-- what a comparison says does so
abbrev pub HasMoving : List Difference → List Atom → Atom → Type 0
HasMoving ds ts t = OfStep (MovesWithOne ds ts) t.left t.op t.right

-- the sides of a comparison of columns of two streams lack one end
abbrev pub AreOpenAcross : List Difference → Element → Element → Type 0
AreOpenAcross ds (element.Attr a) (element.Attr b) = (a.stream ≢ b.stream) × LackOneEnd ds a b
AreOpenAcross ds (element.Attr a) (element.Const k) = ⊥
AreOpenAcross ds (element.Const k) y = ⊥

abbrev pub IsOpenAcross : List Difference → Atom → Type 0
IsOpenAcross ds t = AreOpenAcross ds t.left t.right

-- without DISTINCT those of some comparison do, or two differences between streams move apart
abbrev pub MovesBetween : QueryValue → List Difference → Type 0
MovesBetween q ds = (IsFalse q.distinct × Any (IsOpenAcross ds) q.atoms) ⊎ Any (HasMoving ds q.atoms) q.atoms

-- or a selected column lacks an end
abbrev pub MovesByTests : QueryValue → List Difference → Type 0
MovesByTests q ds = Any (LacksEnd ds) q.select ⊎ MovesBetween q ds
