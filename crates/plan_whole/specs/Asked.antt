-- What links ask of the class of a column.
use Rattle.std.specs.Prelude.{◌≡◌, ◌≢◌, ◌⊎◌, ◌↔◌, pos, List, ◌∷◌}
use Rattle.std.specs.declared.option.Option.{Option}
use Rattle.std.specs.declared.option.Option.TheVariants.{None, Some}
use Rattle.sem_query.specs.declared.atom.Attr.{Attr}
use Rattle.sem_query.specs.declared.atom.Atom.{Atom}
use Rattle.sem_query.specs.declared.atom.Op.{Op}
use Rattle.sem_query.specs.declared.atom.Element.TheVariants as element
use Rattle.sem_query.specs.Members.{Has}
use Rattle.sem_query.specs.Query.{QueryValue}
use Rattle.sem_whole.specs.System.{Difference, Bound, AreOneClass}
use Rattle.sem_whole.specs.Ranges.{Range, range, window, flipped, widest, lesser, greater}
use Rattle.sem_whole.specs.Kept.{IsRange}
use Rattle.sem_whole.specs.Plan.{HasRead}
use Rattle.plan_whole.specs.declared.closed.Ends.{Ends}
use Rattle.plan_whole.specs.declared.links.ColumnLink.{ColumnLink}
use Rattle.plan_whole.specs.Closed.{ends_of}

-- a side of the link is of the class of the column
abbrev pub IsSideOf : List Difference → Attr → ColumnLink → Type 0
IsSideOf ds a l = AreOneClass ds a l.left ⊎ AreOneClass ds a l.right

-- and the link is an equality
abbrev pub Equates : List Difference → Attr → ColumnLink → Type 0
Equates ds a l = (l.op ≡ Op.Eq) × IsSideOf ds a l

-- a column of another stream that is equal in each solution
pub record IsEqualAcross (ds : List Difference) (a b : Attr) : Type 0 where
  pub across : b.stream ≢ a.stream
  pub below : Bound ds (element.Attr a) (element.Attr b) (pos 0)
  pub above : Bound ds (element.Attr b) (element.Attr a) (pos 0)

-- a column of its class is read
abbrev pub IsReadOfClass : QueryValue → List Atom → Attr → Type 0
IsReadOfClass q links a = HasRead q links a

-- the least range that holds all of two
abbrev pub joined : Range → Range → Range
joined r s = range (lesser r.lo s.lo) (greater r.hi s.hi)

-- what a link can tell apart of the class of the column, on each of its sides
abbrev pub IsLeftWindow : List Difference → Attr → ColumnLink → Option Ends → Type 0
IsLeftWindow ds a l None = ¬ AreOneClass ds a l.left
IsLeftWindow ds a l (Some e) = AreOneClass ds a l.left × ((r : Range) × IsRange ds l.right r × (ends_of e ≡ window l.op r))

abbrev pub IsRightWindow : List Difference → Attr → ColumnLink → Option Ends → Type 0
IsRightWindow ds a l None = ¬ AreOneClass ds a l.right
IsRightWindow ds a l (Some e) = AreOneClass ds a l.right × ((r : Range) × IsRange ds l.left r × (ends_of e ≡ window (flipped l.op) r))

-- a range joined with one more
abbrev pub IsWithWindow : Option Ends → Option Ends → Option Ends → Type 0
IsWithWindow asked None new = new ≡ asked
IsWithWindow None (Some more) new = new ≡ Some more
IsWithWindow (Some asked) (Some more) new = (e : Ends) × (new ≡ Some e) × (ends_of e ≡ joined (ends_of more) (ends_of asked))

-- what some links can tell apart of the class of the column
pub data Tells (ds : List Difference) (a : Attr) (links : List ColumnLink) : Range → Type 0 where
  left : (l : ColumnLink) → Has links l → AreOneClass ds a l.left → (r : Range) → IsRange ds l.right r → Tells ds a links (window l.op r)
  right : (l : ColumnLink) → Has links l → AreOneClass ds a l.right → (r : Range) → IsRange ds l.left r → Tells ds a links (window (flipped l.op) r)

-- some ranges are all of them, and this is the widest
pub record IsWidestTold (ds : List Difference) (a : Attr) (links : List ColumnLink) (e : Ends) : Type 0 where
  pub head : Range
  pub others : List Range
  pub all : (w : Range) → Has (head ∷ others) w ↔ Tells ds a links w
  pub widest : ends_of e ≡ widest (head ∷ others)

-- the widest of what they can tell apart, or none where they ask nothing
abbrev pub AreAskedBy : List Difference → Attr → List ColumnLink → Option Ends → Type 0
AreAskedBy ds a links None = (l : ColumnLink) → Has links l → ¬ IsSideOf ds a l
AreAskedBy ds a links (Some e) = IsWidestTold ds a links e
