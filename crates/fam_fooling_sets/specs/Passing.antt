-- By which links of a part the rows of a place are kept apart in a motion.
use Rattle.std.specs.Prelude.{◌≡◌, ℕ, suc, ◌⊎◌, ◌≤◌, ◌<ℤ◌, ◌-ℤ◌, ◌≤ℤ◌, List, length, ℤ, pos, nat_abs, IsFalse, Contains, Option, None, Some}
use Rattle.std.specs.List.{slice_index_or, All}
use Rattle.sem_query.specs.declared.atom.Attr.{Attr}
use Rattle.sem_query.specs.declared.part.Sign.{Sign}
use Rattle.sem_query.specs.declared.plan.Link.{Link}
use Rattle.sem_query.specs.Query.{QueryValue, attrs_of, consts_of, IsWithinLimits}
use Rattle.sem_query.specs.Assignment.{Assignment}
use Rattle.sem_query.specs.Parts.{InPart, IsPart}
use Rattle.sem_query.specs.Order.{IsBounded}
use Rattle.sem_query.specs.Plan.{link}
use Rattle.sem_query.specs.Links.{IsInequality}
use Rattle.plan_constraints.specs.Nodes.{place_of}
use Rattle.plan_constraints.specs.Solutions.{Solves, IsSatisfiable}
use Rattle.plan_constraints.specs.PartConstraints.{of_prefix}
use Rattle.plan_closure.specs.Answers.{IsSolvedAt, at_nodes}
use Rattle.plan_closure.specs.BoundsValue.{BoundsValue}
use Rattle.fam_fooling_sets.specs.declared.motion.Motion.{Motion}
use Rattle.fam_fooling_sets.specs.Moving.{IsMotionOf, Rises, Falls, ReachNoFarther}

-- the value of an attribute in a motion
abbrev pub value_in : QueryValue → Motion → Attr → ℤ
value_in q m a = slice_index_or m.values.items (place_of (attrs_of q.atoms) a) (pos 0)

-- x < y is a link of the part, and what a later number has at the place fails with what an earlier one has elsewhere
pub data PassesFor (q : QueryValue) (s : List Sign) (m : Motion) (place : ℕ) (x y : Attr) : Type 0 where
  left : IsInequality q s x y → x.stream ≡ place → Rises m (value_in q m x) (value_in q m y) → PassesFor q s m place x y
  right : IsInequality q s x y → y.stream ≡ place → Falls m (value_in q m x) (value_in q m y) → PassesFor q s m place x y

-- and what an earlier number has there fails with what a later one has elsewhere
pub data PassesEarlierFor (q : QueryValue) (s : List Sign) (m : Motion) (place : ℕ) (x y : Attr) : Type 0 where
  left : IsInequality q s x y → x.stream ≡ place → Falls m (value_in q m x) (value_in q m y) → PassesEarlierFor q s m place x y
  right : IsInequality q s x y → y.stream ≡ place → Rises m (value_in q m x) (value_in q m y) → PassesEarlierFor q s m place x y

-- some link does the one
pub record LaterPasses (q : QueryValue) (s : List Sign) (m : Motion) (place : ℕ) : Type 0 where
  pub x : Attr
  pub y : Attr
  pub passes : PassesFor q s m place x y

-- some link does the other
pub record EarlierPasses (q : QueryValue) (s : List Sign) (m : Motion) (place : ℕ) : Type 0 where
  pub x : Attr
  pub y : Attr
  pub passes : PassesEarlierFor q s m place x y

-- with DISTINCT both, and without it one of them
pub data PassesApart (q : QueryValue) (s : List Sign) (m : Motion) (place : ℕ) : Type 0 where
  both : LaterPasses q s m place → EarlierPasses q s m place → PassesApart q s m place
  later : IsFalse q.distinct → LaterPasses q s m place → PassesApart q s m place
  earlier : IsFalse q.distinct → EarlierPasses q s m place → PassesApart q s m place

-- the value of the column lies beyond an end
abbrev pub LiesOut : QueryValue → Motion → Attr → Type 0
LiesOut q m a = (m.high <ℤ value_in q m a) ⊎ (value_in q m a <ℤ m.low)

-- the column lies out in a motion, and the rows of its stream are kept apart
pub record Suits (q : QueryValue) (s : List Sign) (a : Attr) (m : Motion) : Type 0 where
  pub out : LiesOut q m a
  pub apart : PassesApart q s m a.stream

-- both attributes, of which the first is less, lie beyond one end
pub data LieBeyond (q : QueryValue) (m : Motion) (x y : Attr) : Type 0 where
  over : m.high <ℤ value_in q m x → LieBeyond q m x y
  under : value_in q m y <ℤ m.low → LieBeyond q m x y

-- the left side of the link is of the place, and the link lies beyond an end
pub record IsLeft (q : QueryValue) (m : Motion) (place : ℕ) (l : Link) : Type 0 where
  pub here : l.left.stream ≡ place
  pub beyond : LieBeyond q m l.left l.right

-- its right side is
pub record IsRight (q : QueryValue) (m : Motion) (place : ℕ) (l : Link) : Type 0 where
  pub here : l.right.stream ≡ place
  pub beyond : LieBeyond q m l.left l.right

-- one of these links has its left side there
pub record HasLeft (q : QueryValue) (m : Motion) (links : List Link) (place : ℕ) : Type 0 where
  pub link : Link
  pub named : Contains links link
  pub is : IsLeft q m place link

-- and one its right side
pub record HasRight (q : QueryValue) (m : Motion) (links : List Link) (place : ℕ) : Type 0 where
  pub link : Link
  pub named : Contains links link
  pub is : IsRight q m place link

-- the left sides of both links are of the place, or the right sides of both
pub data AreOnOneSide (place : ℕ) (first second : Link) : Type 0 where
  lefts : first.left.stream ≡ place → second.left.stream ≡ place → AreOnOneSide place first second
  rights : first.right.stream ≡ place → second.right.stream ≡ place → AreOnOneSide place first second

-- the bounds are at least as tight as those of a part of the query
pub record IsTighter (q : QueryValue) (s : List Sign) (b : BoundsValue) : Type 0 where
  pub within : IsWithinLimits q
  pub part : IsPart q s
  pub attrs : b.attrs ≡ length (attrs_of q.atoms)
  pub solves : (x : ℕ → ℤ) → Solves x b.constraints → Solves x (of_prefix q s)

-- a solution in which a node has a small value
pub record IsFirstSolution (b : BoundsValue) (node : ℕ) (xs : List ℤ) : Type 0 where
  pub value : ℤ
  pub small : nat_abs value ≤ 100000000000065536
  pub solved : IsSolvedAt b.attrs b.constraints node value xs

-- A motion of a solution of the bounds for so many numbers. It has no cuts: none of its values lies beyond one. Its ends are two constants, or lie below all
-- values.
pub record IsMotionBy (q : QueryValue) (s : List Sign) (b : BoundsValue) (n : ℕ) (m : Motion) : Type 0 where
  pub motion : IsMotionOf q s m
  pub size : m.n ≡ n
  pub solves : Solves (at_nodes m.values.items) b.constraints
  pub no_lower : m.lower_cut ≡ pos 0 -ℤ pos 1000000000000000000
  pub no_upper : m.upper_cut ≡ pos 1000000000000000000
  pub ends : ReachNoFarther (consts_of q.atoms) m.values.items (record { low = m.low; high = m.high })

-- tighter bounds in which one attribute is less than another, or no solution of the bounds has it so
abbrev pub IfLess : QueryValue → List Sign → BoundsValue → Attr → Attr → Option BoundsValue → Type 0
IfLess q s b x y None = (z : ℕ → ℤ) → Solves z b.constraints → z (suc (place_of (attrs_of q.atoms) y)) ≤ℤ z (suc (place_of (attrs_of q.atoms) x))
IfLess q s b x y (Some c) = IsTighter q s c × IsSatisfiable c.constraints × ((z : ℕ → ℤ) → Solves z c.constraints → z (suc (place_of (attrs_of q.atoms) x)) <ℤ z (suc (place_of (attrs_of q.atoms) y)))

-- a motion of a solution of the part for so many numbers, in which the column lies out and the rows of its stream are kept apart
pub record IsSuited (q : QueryValue) (s : List Sign) (a : Attr) (n : ℕ) (m : Motion) : Type 0 where
  pub motion : IsMotionOf q s m
  pub suits : Suits q s a m
  pub size : m.n ≡ n

-- these links are all inequalities of the part
pub record AreLinks (q : QueryValue) (s : List Sign) (links : List Link) : Type 0 where
  pub each : All (λ l. IsInequality q s l.left l.right) links
  pub all : (x y : Attr) → IsInequality q s x y → Contains links (link x y)

-- some assignment of the part has one attribute below another
pub record SomeHasLess (q : QueryValue) (s : List Sign) (x y : Attr) : Type 0 where
  pub v : Assignment
  pub inside : InPart q s v
  pub less : v x <ℤ v y

-- two links on one side of a place with unbounded sides, of which some assignment has the first below the second
pub record ArePartedLinks (q : QueryValue) (s : List Sign) (place : ℕ) (first second : Link) : Type 0 where
  pub side : AreOnOneSide place first second
  pub low : ¬ IsBounded q s first.left
  pub high : ¬ IsBounded q s second.left
  pub some : SomeHasLess q s first.right second.left

-- a motion that is cut between two links, or they are not parted so
abbrev pub CutsBetween : QueryValue → List Sign → Link → Link → Attr → ℕ → Option Motion → Type 0
CutsBetween q s first second a n None = ¬ ArePartedLinks q s a.stream first second
CutsBetween q s first second a n (Some m) = IsSuited q s a n m

-- none of these links is parted so from the first one
pub record NoneIsParted (q : QueryValue) (s : List Sign) (links : List Link) (place : ℕ) (first : Link) : Type 0 where
  pub none : (second : Link) → Contains links second → ¬ ArePartedLinks q s place first second

-- one between a link and another of these, or none of these is parted so from it
abbrev pub FindsBehind : QueryValue → List Sign → List Link → Link → Attr → ℕ → Option Motion → Type 0
FindsBehind q s links first a n None = NoneIsParted q s links a.stream first
FindsBehind q s links first a n (Some m) = IsSuited q s a n m

-- one between two of these, or none of these are parted so
abbrev pub FindsCut : QueryValue → List Sign → List Link → Attr → ℕ → Option Motion → Type 0
FindsCut q s links a n None = (first : Link) → Contains links first → NoneIsParted q s links a.stream first
FindsCut q s links a n (Some m) = IsSuited q s a n m
