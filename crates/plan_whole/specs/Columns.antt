-- Comparisons and bounds of columns, as those of elements, and when a bound follows from others.
use Rattle.std.specs.Prelude.{◌≡◌, ℤ, pos, ◌+ℤ◌, ◌≤ℤ◌, List, [], ◌∷◌, ◌++◌, if◌then◌else◌, Contains}
use Rattle.std.specs.declared.option.Option.{Option}
use Rattle.std.specs.declared.option.Option.TheVariants.{None, Some}
use Rattle.sem_query.specs.declared.atom.Attr.{Attr}
use Rattle.sem_query.specs.declared.atom.Atom.{Atom}
use Rattle.sem_query.specs.declared.atom.Op.{Op}
use Rattle.sem_query.specs.declared.atom.Element.TheVariants as element
use Rattle.sem_query.specs.Members.{Has}
use Rattle.sem_whole.specs.System.{Difference, atom_bounds, Bound}
use Rattle.sem_whole.specs.Links.{comparison, comes_late, AreOfOne}
use Rattle.plan_whole.specs.declared.links.ColumnLink.{ColumnLink}
use Rattle.plan_whole.specs.declared.links.ColumnBound.{ColumnBound}

-- a comparison of two columns
abbrev pub atom_of : ColumnLink → Atom
atom_of l = comparison (element.Attr l.left) l.op (element.Attr l.right)

-- a bound of two columns
abbrev pub difference_of : ColumnBound → Difference
difference_of b = record { left = element.Attr b.left; right = element.Attr b.right; by = b.by }

-- with the earlier column on the left
abbrev pub in_order : Attr → Op → Attr → Atom
in_order a o b = if comes_late (element.Attr a) (element.Attr b) then comparison (element.Attr b) o (element.Attr a) else comparison (element.Attr a) o (element.Attr b)

-- what there is, as a list
abbrev pub listed : {X : Type 0} → Option X → List X
listed None = []
listed (Some x) = x ∷ []

-- one link more, where it is not there already
pub data IsOnceWith (old : List ColumnLink) (l : ColumnLink) (new : List ColumnLink) : Type 0 where
  known : Contains old l → new ≡ old → IsOnceWith old l new
  added : ¬ Contains old l → new ≡ old ++ l ∷ [] → IsOnceWith old l new

-- the same, where there may be none
abbrev pub IsAddedTo : List ColumnLink → Option ColumnLink → List ColumnLink → Type 0
IsAddedTo old None new = new ≡ old
IsAddedTo old (Some l) new = IsOnceWith old l new

-- two bounds and the number between them, where both are there
abbrev pub summed : Option ℤ → ℤ → Option ℤ → Option ℤ
summed None by other = None
summed (Some x) by None = None
summed (Some x) by (Some y) = Some (x +ℤ by +ℤ y)

-- two bounds between columns of the same two streams
abbrev pub AreAlike : ColumnBound → ColumnBound → Type 0
AreAlike d b = (b.left.stream ≡ d.left.stream) × (d.right.stream ≡ b.right.stream)

-- a bound follows from another, by what the system says of the columns of each of the two streams
pub record FollowsFrom (ds : List Difference) (d b : Difference) : Type 0 where
  pub first : ℤ
  pub second : ℤ
  pub left : AreOfOne b.left d.left
  pub left_bound : Bound ds b.left d.left first
  pub right : AreOfOne d.right b.right
  pub right_bound : Bound ds d.right b.right second
  pub sum : (first +ℤ d.by +ℤ second) ≤ℤ b.by

-- or from the ranges of its sides
pub record FollowsByRanges (ds : List Difference) (b : Difference) : Type 0 where
  pub high : ℤ
  pub low : ℤ
  pub most : Bound ds b.left (element.Const high) (pos 0)
  pub least : Bound ds (element.Const low) b.right (pos 0)
  pub within : high ≤ℤ (b.by +ℤ low)

-- or from a bound of a comparison
pub record FollowsByLink (ds : List Difference) (t : Atom) (b : Difference) : Type 0 where
  pub bound : Difference
  pub among : Has (atom_bounds t) bound
  pub follows : FollowsFrom ds bound b

-- from a bound of one of some comparisons
abbrev pub FollowsByOne : List Difference → List ColumnLink → Difference → Type 0
FollowsByOne ds links b = (l : ColumnLink) × Has links l × FollowsByLink ds (atom_of l) b
