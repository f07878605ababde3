-- What a part has to be, whatever kind of query it is of, so that its cells tell the answers, and when a plan takes each combination once.
use Rattle.std.specs.Prelude.{◌≡◌, ℕ, ◌<◌, ◌⊎◌, ◌↔◌, ℤ, Bool, true, false, IsTrue, nat_eq, if◌then◌else◌, List, length, All, AllPairs, Contains}
use Rattle.sem_query.specs.declared.atom.Attr.{Attr}
use Rattle.sem_query.specs.declared.atom.Op.{Op}
use Rattle.sem_query.specs.declared.plan.Dim.{Dim}
use Rattle.sem_query.specs.declared.plan.Kind.{Kind}
use Rattle.sem_query.specs.declared.plan.Link.{Link}
use Rattle.sem_query.specs.declared.plan.SoftLink.{SoftLink}
use Rattle.sem_query.specs.declared.plan.PartPlan.{PartPlan}
use Rattle.sem_query.specs.Query.{QueryValue}
use Rattle.sem_query.specs.Assignment.{Holds, KeepsDomains}
use Rattle.sem_query.specs.Meaning.{at_place, joined}
use Rattle.sem_query.specs.Boxes.{box_size, AreFull}
use Rattle.sem_query.specs.Plan.{stream_at, dims_at, Follow}
use Rattle.sem_query.specs.Admission.{admits}
use Rattle.sem_query.specs.Combinations.{is_tied, linked}
use Rattle.sem_query.specs.Sharing.{box_at, boxes, start_in}

-- the part says that two columns are of one class
abbrev pub AreTied : QueryValue → PartPlan → Attr → Attr → Type 0
AreTied q part a b = IsTrue (is_tied q part a b)

-- the value of a column is kept: a dim of its stream is of its class
pub record IsKept (q : QueryValue) (part : PartPlan) (a : Attr) : Type 0 where
  pub dim : Dim
  pub among : Contains (dims_at part a.stream) dim
  pub tied : AreTied q part dim.attr a

-- the least value of its class is kept
pub record IsLeastKept (q : QueryValue) (part : PartPlan) (a : Attr) : Type 0 where
  pub extreme : Attr
  pub kind : (stream_at part a.stream).kind ≡ Kind.Least extreme
  pub stream : extreme.stream ≡ a.stream
  pub tied : AreTied q part extreme a

-- the greatest value of its class is kept
pub record IsGreatestKept (q : QueryValue) (part : PartPlan) (a : Attr) : Type 0 where
  pub extreme : Attr
  pub kind : (stream_at part a.stream).kind ≡ Kind.Greatest extreme
  pub stream : extreme.stream ≡ a.stream
  pub tied : AreTied q part extreme a

-- the links are between columns that a row may have
pub record AreOfColumns (part : PartPlan) : Type 0 where
  pub equal : (l : Link) → Contains part.equal.items l → (l.left.column < 8) × (l.right.column < 8)
  pub less : (l : Link) → Contains part.less.items l → (l.left.column < 8) × (l.right.column < 8)
  pub soft : (l : SoftLink) → Contains part.soft.items l → (l.left.column < 8) × (l.right.column < 8)

-- a comparison of two columns can be asked of what is kept: of `<` and `<=` the least value of the left side serves, and the greatest of the right one
abbrev pub CanBeAsked : QueryValue → PartPlan → Op → Attr → Attr → Type 0
CanBeAsked q part Op.Lt x y = (IsKept q part x ⊎ IsLeastKept q part x) × (IsKept q part y ⊎ IsGreatestKept q part y)
CanBeAsked q part Op.Le x y = (IsKept q part x ⊎ IsLeastKept q part x) × (IsKept q part y ⊎ IsGreatestKept q part y)
CanBeAsked q part o x y = IsKept q part x × IsKept q part y

-- the part keeps the streams of the query: as many as FROM has, and of each a cell for each combination of values of its dims, where there are several
-- streams; cells count exactly where tuples need not be distinct, and the dims of a stream are of its columns, of different classes, none empty
pub record KeepsStreams (q : QueryValue) (part : PartPlan) : Type 0 where
  pub count : length part.streams.items ≡ length q.from
  pub size : (place : ℕ) → place < length q.from → (stream_at part place).size ≡ (if nat_eq (length q.from) 1 then 0 else box_size (dims_at part place))
  pub kind : (place : ℕ) → place < length q.from → ((stream_at part place).kind ≡ Kind.Count) ↔ (q.distinct ≡ false)
  pub dims : (place : ℕ) → place < length q.from → All (λ d. d.attr.stream ≡ place) (dims_at part place)
  pub full : (place : ℕ) → place < length q.from → AreFull (dims_at part place)
  pub names : (place : ℕ) → place < length q.from → AllPairs (λ d e. is_tied q part d.attr e.attr ≡ false) (dims_at part place)

-- the part serves: what it keeps of each stream tells the selected columns, and whether the links hold
pub record Serves (q : QueryValue) (part : PartPlan) : Type 0 where
  pub keeps : KeepsStreams q part
  pub links : AreOfColumns part
  pub classes : (place : ℕ) → place < length q.from → (v : ℕ → ℤ) → IsTrue (admits q part place v)
      → (a b : Attr) → a.stream ≡ place → b.stream ≡ place → AreTied q part a b → v a.column ≡ v b.column
  pub selected : (a : Attr) → Contains q.select a → IsKept q part a
  pub equal : (l : Link) → Contains part.equal.items l → CanBeAsked q part Op.Eq l.left l.right
  pub less : (l : Link) → Contains part.less.items l → CanBeAsked q part Op.Lt l.left l.right
  pub soft : (l : SoftLink) → Contains part.soft.items l → CanBeAsked q part l.op l.left l.right

-- the part takes a combination: it admits each row at its place of FROM, and the links hold
pub record Takes (q : QueryValue) (part : PartPlan) (rows : List (ℕ → ℤ)) : Type 0 where
  pub each : (place : ℕ) → place < length q.from → IsTrue (admits q part place (at_place rows place))
  pub links : IsTrue (linked part (joined rows))

-- of the combinations that keep to the domains, each that satisfies the condition is taken by one part of the plan, and no other is taken
pub record TakesOnce (q : QueryValue) (plan : List PartPlan) : Type 0 where
  pub each : (rows : List (ℕ → ℤ)) → length rows ≡ length q.from → KeepsDomains q (joined rows) → Holds q (joined rows)
      → (part : PartPlan) × Contains plan part × Takes q part rows
  pub no_other : (part : PartPlan) → Contains plan part
      → (rows : List (ℕ → ℤ)) → length rows ≡ length q.from → KeepsDomains q (joined rows) → Takes q part rows → Holds q (joined rows)
  pub apart : AllPairs (λ part other. (rows : List (ℕ → ℤ)) → length rows ≡ length q.from → KeepsDomains q (joined rows) → Takes q part rows → ¬ Takes q other rows) plan

-- a plan that tells the answers
pub record IsServing (q : QueryValue) (plan : List PartPlan) : Type 0 where
  pub serves : All (Serves q) plan
  pub once : TakesOnce q plan

-- where the boxes of a plan begin: one after another from cell 0 on, or where cells are shared, each where the first that is the same begins
abbrev pub AreBased : Bool → QueryValue → List PartPlan → Type 0
AreBased false q plan = Follow 0 plan
AreBased true q plan =
    (part : PartPlan) → Contains plan part → (place : ℕ) → place < length part.streams.items
    → (stream_at part place).base ≡ start_in q (boxes q plan) (box_at part place)
