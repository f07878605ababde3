-- The one whole form of a query: classes by their names, dims in order, and the extreme of each stream chosen by a rule.
use Rattle.std.specs.Prelude.{◌≡◌, ℕ, ◌<◌, ◌↔◌, ℤ, Bool, true, false, IsTrue, nat_lt, List, length, AllPairs}
use Rattle.std.specs.declared.option.Option.{Option}
use Rattle.std.specs.declared.option.Option.TheVariants.{None, Some}
use Rattle.sem_query.specs.declared.atom.Attr.{Attr}
use Rattle.sem_query.specs.declared.atom.Atom.{Atom}
use Rattle.sem_query.specs.declared.condition.Condition.{Condition}
use Rattle.sem_query.specs.declared.plan.Kind.{Kind}
use Rattle.sem_query.specs.Members.{Has}
use Rattle.sem_query.specs.Query.{QueryValue, attr_lt}
use Rattle.sem_query.specs.Boxes.{range_size}
use Rattle.sem_whole.specs.System.{system, AreOneClass}
use Rattle.sem_whole.specs.Links.{AreLinks}
use Rattle.sem_whole.specs.Signed.{IsWellFormed}
use Rattle.sem_whole.specs.Ranges.{Range}
use Rattle.sem_whole.specs.Kept.{IsRange, IsKeptRange}
use Rattle.sem_whole.specs.Whole.{KeptDim, StreamKeep, IsRead, IsLeftAlone, IsRightAlone, IsOneWay, IsServed, Form, RowMeets, IsWholeForm, WholeBreaks, HasFiniteRanges}

-- a column names its class where no earlier one is in it
abbrev pub NamesClass : QueryValue → Attr → Type 0
NamesClass q a = (b : Attr) → AreOneClass (system q) b a → ¬ IsTrue (attr_lt b a)

-- a column of its class is read
pub record HasRead (q : QueryValue) (links : List Atom) (a : Attr) : Type 0 where
  pub member : Attr
  pub inside : AreOneClass (system q) a member
  pub read : IsRead q links member

-- how many integers there are between two ends, where both are there
abbrev pub room : Option ℤ → Option ℤ → Option ℕ
room None hi = None
room (Some l) None = None
room (Some l) (Some h) = Some (range_size l h)

-- whether the first number is greater; one that is not there is greater than each that is
abbrev pub is_more : Option ℕ → Option ℕ → Bool
is_more None None = false
is_more None (Some n) = true
is_more (Some m) None = false
is_more (Some m) (Some n) = nat_lt n m

-- whether a range has more values than another: an open one has more than each that has both ends
abbrev pub is_larger : Range → Range → Bool
is_larger r s = is_more (room r.lo r.hi) (room s.lo s.hi)

-- a class of the stream at a place that may be its extreme: its links all go one way, and more than one value is kept of it
pub record MayBeExtreme (q : QueryValue) (links : List Atom) (place : ℕ) (a : Attr) : Type 0 where
  pub here : a.stream ≡ place
  pub name : NamesClass q a
  pub read : HasRead q links a
  pub way : IsOneWay q links a
  pub range : Range
  pub is_kept : IsKeptRange q links a range
  pub several : IsTrue (is_more (room range.lo range.hi) (Some 1))

-- the largest of these, and the first of equals
pub record IsExtreme (q : QueryValue) (links : List Atom) (place : ℕ) (a : Attr) : Type 0 where
  pub may : MayBeExtreme q links place a
  pub largest : (b : Attr) (other : MayBeExtreme q links place b) → ¬ IsTrue (is_larger other.range may.range)
  pub first : (b : Attr) (other : MayBeExtreme q links place b) → IsTrue (attr_lt b a) → IsTrue (is_larger may.range other.range)

-- the kind of the cells: a count without DISTINCT, and with it the extreme of a class, where one may be it
abbrev pub IsPlannedKind : QueryValue → List Atom → ℕ → Kind → Type 0
IsPlannedKind q links place Kind.Count = q.distinct ≡ false
IsPlannedKind q links place Kind.Present = (q.distinct ≡ true) × ((a : Attr) → ¬ MayBeExtreme q links place a)
IsPlannedKind q links place (Kind.Least e) = (q.distinct ≡ true) × IsExtreme q links place e × IsLeftAlone q links e
IsPlannedKind q links place (Kind.Greatest e) = (q.distinct ≡ true) × IsExtreme q links place e × IsRightAlone q links e

-- the column is of the class of which cells keep the extreme
pub data IsOfExtreme (q : QueryValue) (k : Kind) (a : Attr) : Type 0 where
  of_least : (e : Attr) → k ≡ Kind.Least e → AreOneClass (system q) e a → IsOfExtreme q k a
  of_greatest : (e : Attr) → k ≡ Kind.Greatest e → AreOneClass (system q) e a → IsOfExtreme q k a

-- a dim is a class with a column that is read, by its name, with its kept range, and not that of the extreme
pub record IsPlannedDim (q : QueryValue) (links : List Atom) (place : ℕ) (k : Kind) (d : KeptDim) : Type 0 where
  pub here : d.attr.stream ≡ place
  pub name : NamesClass q d.attr
  pub read : HasRead q links d.attr
  pub other : ¬ IsOfExtreme q k d.attr
  pub range : IsKeptRange q links d.attr d.range

-- what is kept of the stream at a place: the dims, by name, and the kind
pub record IsPlannedStream (q : QueryValue) (links : List Atom) (place : ℕ) (s : StreamKeep) : Type 0 where
  pub kind : IsPlannedKind q links place s.kind
  pub ascending : AllPairs (λ d e. IsTrue (attr_lt d.attr e.attr)) s.dims
  pub dims : (d : KeptDim) → Has s.dims d → IsPlannedDim q links place s.kind d
  pub all : (a : Attr) → a.stream ≡ place → IsRead q links a → IsServed q s a

-- the form is the plan of the query
pub record IsWholePlan (q : QueryValue) (f : Form) : Type 0 where
  pub links : AreLinks q f.links
  pub ranges : (a : Attr) → IsRead q f.links a → (r : Range) × IsRange (system q) a r
  pub streams : (place : ℕ) → place < length q.from → IsPlannedStream q f.links place (f.keeps place)
  pub admits : (place : ℕ) → place < length q.from → (v : ℕ → ℤ) → IsTrue (f.admits place v) ↔ RowMeets q place v

-- the plan of a query is a form of it
abbrev pub PlansAreForms : Type 0
PlansAreForms = (q : QueryValue) (f : Form) → IsWholePlan q f → IsWholeForm q f

-- two forms with the same links, which keep the same of each stream of FROM and admit the same rows
pub record AreOneForm (q : QueryValue) (f g : Form) : Type 0 where
  pub links : f.links ≡ g.links
  pub keeps : (place : ℕ) → place < length q.from → f.keeps place ≡ g.keeps place
  pub admits : (place : ℕ) → place < length q.from → (v : ℕ → ℤ) → f.admits place v ≡ g.admits place v

-- a query has one plan
abbrev pub HasOneWholePlan : Type 0
HasOneWholePlan = (q : QueryValue) (f g : Form) → IsWholePlan q f → IsWholePlan q g → AreOneForm q f g

-- the kept ranges of the plan have both ends exactly where no condition is broken
abbrev pub PlansTellBreaks : Type 0
PlansTellBreaks =
    (q : QueryValue) → IsWellFormed q → (f : Form) → IsWholePlan q f
    → HasFiniteRanges q f ↔ ((c : Condition) (a : Attr) → ¬ WholeBreaks q f.links c a)
