-- The local conditions of a stream, one by one.
use Rattle.std.specs.Prelude.{◌≡◌, ◌≢◌, ℕ, ◌<◌, ◌↔◌, ℤ, pos, List, length, Contains, IsTrue, false}
use Rattle.std.specs.List.{slice_index_or}
use Rattle.std.specs.declared.option.Option.{Option}
use Rattle.std.specs.declared.option.Option.TheVariants.{None, Some}
use Rattle.sem_query.specs.declared.atom.Attr.{Attr}
use Rattle.sem_query.specs.declared.atom.Atom.{Atom}
use Rattle.sem_query.specs.declared.atom.Element.{Element}
use Rattle.sem_query.specs.declared.atom.Element.TheVariants as element
use Rattle.sem_query.specs.declared.atom.Op.{Op}
use Rattle.sem_query.specs.Members.{Has}
use Rattle.sem_query.specs.Query.{QueryValue, HasAttr, attrs_of}
use Rattle.sem_whole.specs.System.{system, IsOf}
use Rattle.sem_whole.specs.Kept.{IsLowest, IsHighest}
use Rattle.sem_whole.specs.Plan.{NamesClass}
use Rattle.sem_whole.specs.Laws.{IsLeastBound}
use Rattle.plan_whole.specs.Classes.{IsNameOf}
use Rattle.plan_whole.specs.Columns.{FollowsByRanges}
use Rattle.plan_whole.specs.Extremes.{column_at}
use Rattle.sem_query.specs.declared.plan.LocalCondition.{LocalCondition}
use Rattle.plan_whole_form.specs.declared.conditions.KnownColumn.{KnownColumn}

abbrev pub condition : Attr → Op → Element → ℤ → LocalCondition
condition a o e k = record { left = a; op = o; right = e; by = k }

-- the column that names the class of a column, and whether a comparison names it
pub record IsKnownColumn (q : QueryValue) (a : Attr) (k : KnownColumn) : Type 0 where
  pub name : IsNameOf q a k.name
  pub compared : IsTrue k.is_compared ↔ Contains (attrs_of q.atoms) a

-- the same of each column of the stream at a place, in order
abbrev pub AreKnownColumns : QueryValue → ℕ → List KnownColumn → Type 0
AreKnownColumns q place columns = (c : ℕ) → c < 8 → IsKnownColumn q (column_at place c) (slice_index_or columns c record { name = column_at 0 0; is_compared = false })

-- a column is tied to the one that names its class, where that is another
abbrev pub IsTie : QueryValue → Attr → Option LocalCondition → Type 0
IsTie q a None = NamesClass q a
IsTie q a (Some t) = (n : Attr) × IsNameOf q a n × (n ≢ a) × (t ≡ condition a Op.Eq (element.Attr n) (pos 0))

-- one that names its class is at least its least value, where there is one
abbrev pub IsLeastEnd : QueryValue → Attr → Option LocalCondition → Type 0
IsLeastEnd q a None = NamesClass q a → IsLowest (system q) a None
IsLeastEnd q a (Some t) = NamesClass q a × (l : ℤ) × IsLowest (system q) a (Some l) × (t ≡ condition a Op.Ge (element.Const l) (pos 0))

-- and at most its greatest
abbrev pub IsGreatestEnd : QueryValue → Attr → Option LocalCondition → Type 0
IsGreatestEnd q a None = NamesClass q a → IsHighest (system q) a None
IsGreatestEnd q a (Some t) = NamesClass q a × (h : ℤ) × IsHighest (system q) a (Some h) × (t ≡ condition a Op.Le (element.Const h) (pos 0))

-- the ranges of both columns say that one is at most so much above the other
abbrev pub IsSaid : QueryValue → Attr → Attr → ℤ → Type 0
IsSaid q a b u = FollowsByRanges (system q) record { left = element.Attr a; right = element.Attr b; by = u }

-- that bound, where they do not
abbrev pub IsUnsaid : QueryValue → Attr → Attr → ℤ → Option LocalCondition → Type 0
IsUnsaid q a b u None = IsSaid q a b u
IsUnsaid q a b u (Some t) = (¬ IsSaid q a b u) × (t ≡ condition a Op.Le (element.Attr b) u)

-- two columns that name classes
pub record AreTwoNames (q : QueryValue) (a b : Attr) : Type 0 where
  pub left : NamesClass q a
  pub right : NamesClass q b
  pub apart : a ≢ b

-- of two columns that name classes the one is at most so much above the other, where there is a bound that the ranges do not say
abbrev pub IsBetween : QueryValue → Attr → Attr → Option LocalCondition → Type 0
IsBetween q a b None = AreTwoNames q a b → (u : ℤ) → IsLeastBound (system q) (element.Attr a) (element.Attr b) (Some u) → IsSaid q a b u
IsBetween q a b (Some t) = AreTwoNames q a b × (u : ℤ) × IsLeastBound (system q) (element.Attr a) (element.Attr b) (Some u) × (¬ IsSaid q a b u) × (t ≡ condition a Op.Le (element.Attr b) u)

-- a comparison `<>` of a column of the stream at a place with another, or with an integer
pub record IsOwnUnlike (place : ℕ) (s : Atom) : Type 0 where
  pub op : s.op ≡ Op.Ne
  pub column : HasAttr s
  pub left : IsOf place s.left
  pub right : IsOf place s.right

-- turned so that a column stands on the left
abbrev pub IsTurned : Element → Element → LocalCondition → Type 0
IsTurned (element.Attr a) e t = t ≡ condition a Op.Ne e (pos 0)
IsTurned (element.Const k) (element.Attr b) t = t ≡ condition b Op.Ne (element.Const k) (pos 0)
IsTurned (element.Const j) (element.Const k) t = ⊥

abbrev pub IsUnlikeAt : ℕ → Atom → Option LocalCondition → Type 0
IsUnlikeAt place s None = ¬ IsOwnUnlike place s
IsUnlikeAt place s (Some t) = IsOwnUnlike place s × IsTurned s.left s.right t

-- a column of the stream at a place
pub record IsColumnAt (place : ℕ) (a : Attr) : Type 0 where
  pub here : a.stream ≡ place
  pub column : a.column < 8

-- what has to be asked of the rows of the stream at a place: ties, ends of ranges, bounds that the ranges do not say, and own comparisons `<>`
pub data IsAsked (q : QueryValue) (place : ℕ) (t : LocalCondition) : Type 0 where
  tie : (a : Attr) → IsColumnAt place a → IsTie q a (Some t) → IsAsked q place t
  least : (a : Attr) → IsColumnAt place a → IsLeastEnd q a (Some t) → IsAsked q place t
  greatest : (a : Attr) → IsColumnAt place a → IsGreatestEnd q a (Some t) → IsAsked q place t
  between : (a b : Attr) → IsColumnAt place a → IsColumnAt place b → IsBetween q a b (Some t) → IsAsked q place t
  unlike : (s : Atom) → Has q.atoms s → IsUnlikeAt place s (Some t) → IsAsked q place t

-- what has to be asked of the rows of all streams, and nothing else
abbrev pub AreConditions : QueryValue → List LocalCondition → Type 0
AreConditions q ts = (t : LocalCondition) → Has ts t ↔ ((place : ℕ) × (place < length q.from) × IsAsked q place t)
