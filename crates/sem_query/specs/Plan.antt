-- The plan of a query: what is kept of each stream in each part.
use Rattle.std.specs.Prelude.{◌≡◌, ℕ, ◌+◌, ◌<◌, Bool, true, false, List, [], ◌∷◌, map, length, nat_eq, IsTrue, IsFalse, Contains, All, AllPairs, ◌↔◌, ◌⊎◌, if◌then◌else◌}
use Rattle.std.specs.List.{slice_index_or}
use Rattle.sem_query.specs.declared.atom.Attr.{Attr}
use Rattle.sem_query.specs.declared.part.Sign.{Sign}
use Rattle.sem_query.specs.declared.plan.Dim.{Dim}
use Rattle.sem_query.specs.declared.plan.Kind.{Kind}
use Rattle.sem_query.specs.declared.plan.Link.{Link}
use Rattle.sem_query.specs.declared.plan.StreamPlan.{StreamPlan}
use Rattle.sem_query.specs.declared.plan.PartPlan.{PartPlan}
use Rattle.sem_query.specs.Query.{QueryValue, attrs_of, attr_lt, is_filter}
use Rattle.sem_query.specs.Parts.{AreParts}
use Rattle.sem_query.specs.Order.{IsBounded, IsLeast, IsGreatest}
pub use Rattle.sem_query.specs.Links.{AreOneClass}
use Rattle.sem_query.specs.Links.{IsEquality, IsInequality, IsMinRef, IsMaxRef}
use Rattle.sem_query.specs.Boxes.{box_size}

-- what is kept of the stream at a place of FROM
abbrev pub stream_at : PartPlan → ℕ → StreamPlan
stream_at part place = slice_index_or part.streams.items place record { dims = record { items = [] }; kind = Kind.Present; base = 0; size = 0 }

-- the dims of the stream at a place of FROM
abbrev pub dims_at : PartPlan → ℕ → List Dim
dims_at part place = (stream_at part place).dims.items

-- a column that answers read: it is selected, or stands in a link between streams
pub data IsWanted (q : QueryValue) (s : List Sign) (a : Attr) : Type 0 where
  selected : Contains q.select a → IsWanted q s a
  left_equal : (b : Attr) → IsEquality q s a b → IsWanted q s a
  right_equal : (b : Attr) → IsEquality q s b a → IsWanted q s a
  left_less : (b : Attr) → IsInequality q s a b → IsWanted q s a
  right_less : (b : Attr) → IsInequality q s b a → IsWanted q s a

-- an attribute or a selected column names its class where no earlier one is in it
pub record NamesClass (q : QueryValue) (s : List Sign) (a : Attr) : Type 0 where
  pub named : Contains (attrs_of q.atoms) a ⊎ Contains q.select a
  pub first : (b : Attr) → AreOneClass q s b a → ¬ IsTrue (attr_lt b a)

-- a dim is a class with a member that answers read, by its name, with its least and greatest value
pub record IsDim (q : QueryValue) (s : List Sign) (place : ℕ) (d : Dim) : Type 0 where
  pub here : d.attr.stream ≡ place
  pub name : NamesClass q s d.attr
  pub low : IsLeast q s d.attr d.lo
  pub high : IsGreatest q s d.attr d.hi
  pub member : Attr
  pub inside : AreOneClass q s d.attr member
  pub wanted : IsWanted q s member

-- the dims of a stream, by name: each bounded column that answers read is in the class of one
pub record AreDims (q : QueryValue) (s : List Sign) (place : ℕ) (dims : List Dim) : Type 0 where
  pub ascending : AllPairs (λ d e. IsTrue (attr_lt d.attr e.attr)) dims
  pub each : All (IsDim q s place) dims
  pub all : (a : Attr) → a.stream ≡ place → IsWanted q s a → IsBounded q s a → (d : Dim) × Contains dims d × AreOneClass q s d.attr a

-- without DISTINCT rows are counted; with it a cell keeps the extreme of the class of references of its stream, where there is one
abbrev pub IsKind : QueryValue → List Sign → ℕ → Kind → Type 0
IsKind q s place Kind.Count = q.distinct ≡ false
IsKind q s place Kind.Present = (q.distinct ≡ true) × ((a : Attr) → a.stream ≡ place → (¬ IsMinRef q s a) × (¬ IsMaxRef q s a))
IsKind q s place (Kind.Least a) = (q.distinct ≡ true) × (a.stream ≡ place) × NamesClass q s a × IsMinRef q s a
IsKind q s place (Kind.Greatest a) = (q.distinct ≡ true) × (a.stream ≡ place) × NamesClass q s a × IsMaxRef q s a

-- what is kept of one stream: a query over one stream keeps no cells
pub record IsStreamPlan (q : QueryValue) (s : List Sign) (place : ℕ) (plan : StreamPlan) : Type 0 where
  pub dims : AreDims q s place plan.dims.items
  pub kind : IsKind q s place plan.kind
  pub size : plan.size ≡ (if nat_eq (length q.from) 1 then 0 else box_size plan.dims.items)

-- two columns as a link
abbrev pub link : Attr → Attr → Link
link x y = record { left = x; right = y }

-- links are ordered by their left sides, then their right sides
abbrev pub link_lt : Link → Link → Bool
link_lt x y = if attr_lt x.left y.left then true else (if attr_lt y.left x.left then false else attr_lt x.right y.right)

-- the plan of a part: its links, an equality once and the earlier attribute first, and what is kept of each stream; signs say all that rows of a
-- stream are asked
pub record IsPartPlan (q : QueryValue) (part : PartPlan) : Type 0 where
  pub equal : (x y : Attr) → Contains part.equal.items (link x y) ↔ (IsTrue (attr_lt x y) × IsEquality q part.signs.items x y)
  pub equal_ascends : AllPairs (λ x y. IsTrue (link_lt x y)) part.equal.items
  pub less : (x y : Attr) → Contains part.less.items (link x y) ↔ IsInequality q part.signs.items x y
  pub less_ascends : AllPairs (λ x y. IsTrue (link_lt x y)) part.less.items
  pub local : part.local ≡ []
  pub soft : part.soft.items ≡ []
  pub count : length part.streams.items ≡ length q.from
  pub streams : (place : ℕ) → place < length q.from → IsStreamPlan q part.signs.items place (stream_at part place)

-- the boxes of a part follow each other from a number on, and then the rest does
abbrev pub FollowIn : ℕ → List StreamPlan → (ℕ → Type 0) → Type 0
FollowIn next [] rest = rest next
FollowIn next (s ∷ streams) rest = (s.base ≡ next) × FollowIn (next + s.size) streams rest

-- the boxes follow each other by part and then by FROM
abbrev pub Follow : ℕ → List PartPlan → Type 0
Follow next [] = Unit {0}
Follow next (part ∷ parts) = FollowIn next part.streams.items (λ n. Follow n parts)

-- the plans of all parts of a query, in order, wherever their boxes begin
pub record ArePartPlans (q : QueryValue) (plan : List PartPlan) : Type 0 where
  pub parts : AreParts q (map (λ part. part.signs.items) plan)
  pub plans : All (IsPartPlan q) plan

-- the plan of a query that is no filter: its parts, in order, with the boxes from number 0 on
pub record IsPlan (q : QueryValue) (plan : List PartPlan) : Type 0 where
  pub parts : AreParts q (map (λ part. part.signs.items) plan)
  pub plans : All (IsPartPlan q) plan
  pub bases : Follow 0 plan

-- the plan of any query: a filter keeps nothing
pub data IsPlanned (q : QueryValue) (plan : List PartPlan) : Type 0 where
  filter : IsTrue (is_filter q) → plan ≡ [] → IsPlanned q plan
  parts : IsFalse (is_filter q) → IsPlan q plan → IsPlanned q plan
