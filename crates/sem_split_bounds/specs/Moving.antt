-- Values that move on without end, so that answers must tell how far they went: read off the comparisons and domains of a query, without parts.
use Rattle.std.specs.Prelude.{◌≡◌, ◌≢◌, ◌↔◌, ◌⊎◌, ℤ, IsTrue, IsFalse, List, Contains}
use Rattle.sem_query.specs.declared.atom.Atom.{Atom}
use Rattle.sem_query.specs.declared.atom.Attr.{Attr}
use Rattle.sem_query.specs.declared.atom.Element.TheVariants as element
use Rattle.sem_query.specs.declared.condition.Condition.{Condition}
use Rattle.sem_query.specs.declared.part.Sign.{Sign}
use Rattle.sem_query.specs.Members.{Has}
use Rattle.sem_query.specs.Query.{QueryValue, IsWithinLimits}
use Rattle.sem_query.specs.Assignment.{Assignment, Holds, KeepsDomains}
use Rattle.sem_query.specs.Domains.{RowKeeps}
use Rattle.plan_split_pairs.specs.SplitParts.{IsSplitPart}
use Rattle.sem_whole.specs.System.{Difference, system, Bound}
use Rattle.sem_whole.specs.Links.{AreLinks}
use Rattle.sem_whole.specs.Whole.{WholeBreaks}
use Rattle.sem_forms.specs.Split.{part_query}
use Rattle.sem_lower_bounds.specs.Served.{HasFewStatesOn}
use Rattle.sem_lower_bounds.specs.States.{Evaluator}
use Rattle.sem_lower_bounds.specs.Within.{IsRightOn, NeedsStatesWithin}
use Rattle.sem_split_bounds.specs.Near.{NearBreak}
use Rattle.sem_split_bounds.specs.Split.{HasToldUnlikes}
use Rattle.sem_split_bounds.specs.Steps.{NoTop, NoBottom, Step, OneEnd}

-- no integer bounds how far x is above y
abbrev pub IsLoose : List Difference → Attr → Attr → Type 0
IsLoose ds x y = (c : ℤ) → ¬ Bound ds (element.Attr x) (element.Attr y) c

-- a comparison of columns of two streams
pub record IsCompared (q : QueryValue) (x y : Attr) : Type 0 where
  pub by : Atom
  pub among : Has q.atoms by
  pub left : by.left ≡ element.Attr x
  pub right : by.right ≡ element.Attr y
  pub across : x.stream ≢ y.stream

-- both columns lack a greatest value, or both a least
abbrev pub LackOneEnd : List Difference → Attr → Attr → Type 0
LackOneEnd ds x y = (NoTop ds x × NoTop ds y) ⊎ (NoBottom ds x × NoBottom ds y)

-- two differences have their left sides in one stream, or their right sides
abbrev pub AreBeside : Attr → Attr → Attr → Attr → Type 0
AreBeside x1 y1 x2 y2 = (x1.stream ≡ x2.stream) ⊎ (y1.stream ≡ y2.stream)

-- they have some sides in one stream
abbrev pub ShareStream : Attr → Attr → Attr → Attr → Type 0
ShareStream x1 y1 x2 y2 = AreBeside x1 y1 x2 y2 ⊎ AreBeside x1 y1 y2 x2

-- Of two differences, x1 to y1 and x2 to y2, the sides of a stream can be moved so that rows of two numbers never go together. The stream has x1 and y2, and both
-- can go to one end. Or it has both left sides, or both right ones, they can go to one end, and nothing ties x2 to y1. Or x1 can go up and y2 down, and
-- nothing ties x1 to y2.
abbrev pub MoveApart : List Difference → Attr → Attr → Attr → Attr → Type 0
MoveApart ds x1 y1 x2 y2 =
    ((x1.stream ≡ y2.stream) × OneEnd ds x1 y1 x2 y2)
    ⊎ ((AreBeside x1 y1 x2 y2 × OneEnd ds x1 y1 x2 y2 × IsLoose ds x2 y1)
    ⊎ (ShareStream x1 y1 x2 y2 × NoTop ds x1 × NoBottom ds y2 × IsLoose ds x1 y2))

-- Values of a query move on so that answers must tell how far: a selected column lacks an end; or without DISTINCT the sides of a comparison between streams lack
-- one end; or two differences between streams move apart.
pub data HasMotion (q : QueryValue) : Type 0 where
  selected : (a : Attr) → Contains q.select a → NoTop (system q) a ⊎ NoBottom (system q) a → HasMotion q
  counted : IsFalse q.distinct → (x y : Attr) → IsCompared q x y → LackOneEnd (system q) x y → HasMotion q
  apart : (x1 y1 x2 y2 : Attr) → Step (system q) x1 y1 → Step (system q) x2 y2 → MoveApart (system q) x1 y1 x2 y2 → HasMotion q

-- where a split part breaks a condition, values move: that none do is absurd
abbrev pub BrokenPartsMove : Type 0
BrokenPartsMove =
    (q : QueryValue) → IsWithinLimits q → HasToldUnlikes q
    → (ss : List Sign) → IsSplitPart q ss → (links : List Atom) → AreLinks (part_query q ss) links
    → (c : Condition) (a : Attr) → WholeBreaks (part_query q ss) links c a → ¬ ¬ HasMotion q

-- and where a near part does
abbrev pub NearBreaksMove : Type 0
NearBreaksMove = (q : QueryValue) → IsWithinLimits q → NearBreak q → ¬ ¬ HasMotion q

-- so with DISTINCT a query whose values do not move has an evaluator that is right on rows within the domains and has few states
abbrev pub StillQueriesHaveFewStates : Type 0
StillQueriesHaveFewStates =
    (q : QueryValue) → IsWithinLimits q → IsTrue q.distinct → ¬ HasMotion q → (e : Evaluator) × IsRightOn (RowKeeps q) q e × HasFewStatesOn (RowKeeps q) e

-- and with DISTINCT a query that some assignment satisfies within its domains needs many states exactly where its values move: that they do not is absurd
abbrev pub MotionDecides : Type 0
MotionDecides =
    (q : QueryValue) → IsWithinLimits q → IsTrue q.distinct → (some : Assignment) → Holds q some → KeepsDomains q some → NeedsStatesWithin q ↔ ¬ ¬ HasMotion q
