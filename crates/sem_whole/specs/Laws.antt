-- What holds of the whole form of each query.
use Rattle.std.specs.Prelude.{◌≡◌, ℕ, ◌<◌, ◌↔◌, ℤ, pos, ◌≤ℤ◌, Contains, Bool, false, IsTrue, List, ◌++◌, map, filter, length}
use Rattle.std.specs.List.{list_any}
use Rattle.sem_query.specs.declared.atom.Attr.{Attr}
use Rattle.std.specs.declared.option.Option.{Option}
use Rattle.std.specs.declared.option.Option.TheVariants.{None, Some}
use Rattle.sem_query.specs.declared.atom.Op.{Op}
use Rattle.sem_query.specs.declared.atom.Element.{Element}
use Rattle.sem_query.specs.declared.atom.Element.TheVariants as element
use Rattle.plan_constraints.specs.Nodes.{node_of, at_most_above}
use Rattle.plan_constraints.specs.Solutions.{Implies, IsLowAnswer, IsHighAnswer}
use Rattle.sem_query.specs.declared.atom.Atom.{Atom}
use Rattle.sem_query.specs.Members.{Has}
use Rattle.sem_query.specs.Query.{QueryValue}
use Rattle.sem_query.specs.Assignment.{Assignment, compares, IsAmong, AtomHolds, Holds, KeepsDomains}
use Rattle.sem_query.specs.Meaning.{Arrival, answers, new_answers}
use Rattle.sem_query.specs.declared.condition.Condition.{Condition}
use Rattle.sem_query.specs.declared.plan.Dim.{Dim}
use Rattle.sem_query.specs.Boxes.{AreInside, AreFull}
use Rattle.sem_query.specs.Domains.{RowKeeps, RowsKeep}
use Rattle.sem_query.specs.Tuples.{is_same}
use Rattle.sem_whole.specs.System.{Difference, Meets, system, Solves, Bound, IsOf, MeetsLocal, AreOneClass}
use Rattle.sem_whole.specs.Links.{AreLinks}
use Rattle.sem_whole.specs.Signed.{IsWellFormed}
use Rattle.sem_whole.specs.Ranges.{Range, kept}
use Rattle.sem_whole.specs.Kept.{IsRange, IsKeptRange}
use Rattle.sem_whole.specs.Whole.{IsRead, IsLeftAlone, IsRightAlone, RowMeets, Form, IsWholeForm, key_of, SameCells, AreBoxed, HasFiniteRanges, WholeBreaks}

-- the assignment meets the local conditions of each stream, and the links
pub record MeetsWhole (q : QueryValue) (links : List Atom) (v : Assignment) : Type 0 where
  pub local : (place : ℕ) → place < length q.from → MeetsLocal q place v
  pub linked : (t : Atom) → Has links t → AtomHolds v t

-- an assignment satisfies the query within its domains exactly where each stream meets its local conditions, and the links that remain hold
abbrev pub LinksSuffice : Type 0
LinksSuffice =
    (q : QueryValue) → IsWellFormed q → (links : List Atom) → AreLinks q links
    → (v : Assignment) → (Holds q v × KeepsDomains q v) ↔ MeetsWhole q links v

-- a query has one list of links
abbrev pub HasOneListOfLinks : Type 0
HasOneListOfLinks = (q : QueryValue) (links others : List Atom) → AreLinks q links → AreLinks q others → links ≡ others

-- what follows from a system is what its constraints on nodes imply, of which closures tell
abbrev pub BoundsAreImplied : Type 0
BoundsAreImplied =
    (xs : List Attr) (ds : List Difference) → ((d : Difference) → Has ds d → IsAmong xs d.left × IsAmong xs d.right)
    → (x y : Element) (c : ℤ) → IsAmong xs x → IsAmong xs y
    → Bound ds x y c ↔ Implies (map (λ d. at_most_above xs d.left d.right d.by) ds) (at_most_above xs x y c)

-- the least and the greatest value of a column's node, or none, are the ends of its range
abbrev pub RangesAreTold : Type 0
RangesAreTold =
    (xs : List Attr) (ds : List Difference) → ((d : Difference) → Has ds d → IsAmong xs d.left × IsAmong xs d.right)
    → (a : Attr) → Contains xs a → (lo hi : Option ℤ)
    → IsLowAnswer (map (λ d. at_most_above xs d.left d.right d.by) ds) (node_of xs (element.Attr a)) lo
    → IsHighAnswer (map (λ d. at_most_above xs d.left d.right d.by) ds) (node_of xs (element.Attr a)) hi
    → IsRange ds a record { lo = lo; hi = hi }

-- of rows that meet the local conditions, a link holds of the values exactly where it holds of what they are kept as
abbrev pub KeptValuesDecide : Type 0
KeptValuesDecide =
    (q : QueryValue) (links : List Atom) → AreLinks q links
    → (t : Atom) → Has links t → (a b : Attr) → t.left ≡ element.Attr a → t.right ≡ element.Attr b
    → (r s : Range) → IsKeptRange q links a r → IsKeptRange q links b s
    → (v : Assignment) → MeetsLocal q a.stream v → MeetsLocal q b.stream v
    → AtomHolds v t ↔ IsTrue (compares t.op (kept r (v a)) (kept s (v b)))

-- how often a tuple is answered
abbrev pub how_often : List ℤ → QueryValue → List Arrival → ℕ
how_often z q h = length (filter (is_same z) (answers q h))

-- without DISTINCT, histories with the same cells have each answer equally often, where the rows keep to the domains
abbrev pub CountsDecide : Type 0
CountsDecide =
    (q : QueryValue) → IsWellFormed q → (f : Form) → IsWholeForm q f → q.distinct ≡ false
    → (g h : List Arrival) → RowsKeep q g → RowsKeep q h → SameCells q f g h → (z : List ℤ) → how_often z q g ≡ how_often z q h

-- with DISTINCT, or without, they have the same answers
abbrev pub CellsDecide : Type 0
CellsDecide =
    (q : QueryValue) → IsWellFormed q → (f : Form) → IsWholeForm q f
    → (g h : List Arrival) → RowsKeep q g → RowsKeep q h → SameCells q f g h → (z : List ℤ)
    → list_any (is_same z) (answers q g) ≡ list_any (is_same z) (answers q h)

-- they are answered alike for good
abbrev pub WholeFutureIsDetermined : Type 0
WholeFutureIsDetermined =
    (q : QueryValue) → IsWellFormed q → (f : Form) → IsWholeForm q f
    → (g h : List Arrival) → RowsKeep q g → RowsKeep q h → SameCells q f g h
    → (later : List Arrival) (r : Arrival) → RowsKeep q later → RowKeeps q r → new_answers q (g ++ later) r ≡ new_answers q (h ++ later) r

-- a column among these, or 0
abbrev pub IsBase : List Attr → Element → Type 0
IsBase xs (element.Attr a) = Contains xs a
IsBase xs (element.Const k) = k ≡ pos 0

-- the least bound of x above y, or none where there is none
abbrev pub IsLeastBound : List Difference → Element → Element → Option ℤ → Type 0
IsLeastBound ds x y None = (c : ℤ) → ¬ Bound ds x y c
IsLeastBound ds x y (Some u) = Bound ds x y u × ((c : ℤ) → Bound ds x y c → u ≤ℤ c)

-- of a system with a solution, the local conditions of a stream are its own `<>` and the least bounds between its own columns and 0
abbrev pub LocalConditionsAreFew : Type 0
LocalConditionsAreFew =
    (q : QueryValue) (xs : List Attr) → ((d : Difference) → Has (system q) d → IsAmong xs d.left × IsAmong xs d.right)
    → (some : Assignment) → Solves (system q) some
    → (upper : Element → Element → Option ℤ) → ((x y : Element) → IsBase xs x → IsBase xs y → IsLeastBound (system q) x y (upper x y))
    → (place : ℕ) (v : Assignment)
    → ((x y : Element) → IsBase xs x → IsBase xs y → IsOf place x → IsOf place y → (u : ℤ) → upper x y ≡ Some u → Meets v record { left = x; right = y; by = u })
    → ((t : Atom) → Has q.atoms t → t.op ≡ Op.Ne → IsOf place t.left → IsOf place t.right → AtomHolds v t)
    → MeetsLocal q place v

-- no kept range is empty, and the kept values of each row, admitted or not, lie in the boxes
abbrev pub KeysLieInBoxes : Type 0
KeysLieInBoxes =
    (q : QueryValue) (f : Form) → IsWholeForm q f → (place : ℕ) → place < length q.from
    → (dims : List Dim) → AreBoxed (f.keeps place).dims dims
    → AreFull dims × ((v : ℕ → ℤ) → AreInside dims (key_of (f.keeps place) v))

-- a query with a form of finite ranges breaks no condition
abbrev pub FiniteFormsBreakNothing : Type 0
FiniteFormsBreakNothing =
    (q : QueryValue) → IsWellFormed q → (f : Form) → IsWholeForm q f → HasFiniteRanges q f
    → (c : Condition) (a : Attr) → ¬ WholeBreaks q f.links c a

-- what has to be decided of a query to make its form
pub record Decided (q : QueryValue) (links : List Atom) : Type 0 where
  pub range : Attr → Range
  pub is_range : (a : Attr) → IsRead q links a → IsRange (system q) a (range a)
  pub keep : Attr → Range
  pub is_kept : (a : Attr) → IsRead q links a → IsKeptRange q links a (keep a)
  pub left_alone : Attr → Bool
  pub is_left : (a : Attr) → IsTrue (left_alone a) ↔ IsLeftAlone q links a
  pub right_alone : Attr → Bool
  pub is_right : (a : Attr) → IsTrue (right_alone a) ↔ IsRightAlone q links a
  pub tied : Attr → Attr → Bool
  pub is_tied : (a b : Attr) → IsTrue (tied a b) ↔ AreOneClass (system q) a b
  pub admits : ℕ → (ℕ → ℤ) → Bool
  pub is_admitted : (place : ℕ) → place < length q.from → (v : ℕ → ℤ) → IsTrue (admits place v) ↔ RowMeets q place v

-- where no condition is broken there is a form of finite ranges
abbrev pub FiniteFormsExist : Type 0
FiniteFormsExist =
    (q : QueryValue) → IsWellFormed q → (links : List Atom) → AreLinks q links → Decided q links
    → ((c : Condition) (a : Attr) → ¬ WholeBreaks q links c a)
    → (f : Form) × (f.links ≡ links) × IsWholeForm q f × HasFiniteRanges q f
