-- Which values of a column are kept apart: its range, cut to what the links can tell apart.
use Rattle.std.specs.Prelude.{◌≡◌, ◌≢◌, ◌↔◌, ◌⊎◌, ℤ, pos, ◌≤ℤ◌, List, Contains}
use Rattle.std.specs.declared.option.Option.{Option}
use Rattle.std.specs.declared.option.Option.TheVariants.{None, Some}
use Rattle.sem_query.specs.declared.atom.Attr.{Attr}
use Rattle.sem_query.specs.declared.atom.Atom.{Atom}
use Rattle.sem_query.specs.declared.atom.Element.TheVariants as element
use Rattle.sem_query.specs.declared.atom.Op.{Op}
use Rattle.sem_query.specs.Members.{Has}
use Rattle.sem_query.specs.Query.{QueryValue, attrs_of}
use Rattle.sem_whole.specs.System.{Difference, system, Bound, AreOneClass}
use Rattle.sem_whole.specs.Ranges.{Range, whole, window, flipped, widest, cut}

-- the greatest integer that the column is never below, or none where there is none
abbrev pub IsLowest : List Difference → Attr → Option ℤ → Type 0
IsLowest ds a None = (k : ℤ) → ¬ Bound ds (element.Const k) (element.Attr a) (pos 0)
IsLowest ds a (Some l) = Bound ds (element.Const l) (element.Attr a) (pos 0) × ((k : ℤ) → Bound ds (element.Const k) (element.Attr a) (pos 0) → k ≤ℤ l)

-- the least integer that it is never above, or none where there is none
abbrev pub IsHighest : List Difference → Attr → Option ℤ → Type 0
IsHighest ds a None = (k : ℤ) → ¬ Bound ds (element.Attr a) (element.Const k) (pos 0)
IsHighest ds a (Some h) = Bound ds (element.Attr a) (element.Const h) (pos 0) × ((k : ℤ) → Bound ds (element.Attr a) (element.Const k) (pos 0) → h ≤ℤ k)

-- the range of a column
pub record IsRange (ds : List Difference) (a : Attr) (r : Range) : Type 0 where
  pub low : IsLowest ds a r.lo
  pub high : IsHighest ds a r.hi

-- the class of a column is kept as it is where it is selected, in a link `=`, or equal to a column of another stream
pub data IsKeptAsItIs (q : QueryValue) (links : List Atom) (a : Attr) : Type 0 where
  selected : (b : Attr) → AreOneClass (system q) a b → Contains q.select b → IsKeptAsItIs q links a
  linked : (t : Atom) → Has links t → t.op ≡ Op.Eq → (b : Attr) → (t.left ≡ element.Attr b) ⊎ (t.right ≡ element.Attr b) → AreOneClass (system q) a b → IsKeptAsItIs q links a
  equal : (b : Attr) → Contains (attrs_of q.atoms) b → b.stream ≢ a.stream
      → Bound (system q) (element.Attr a) (element.Attr b) (pos 0) → Bound (system q) (element.Attr b) (element.Attr a) (pos 0) → IsKeptAsItIs q links a

-- what is asked of the class of a column: all where it is kept as it is, and by each link what that can tell apart
pub data IsAsked (q : QueryValue) (links : List Atom) (a : Attr) : Range → Type 0 where
  as_it_is : IsKeptAsItIs q links a → IsAsked q links a whole
  left : (t : Atom) → Has links t → (b c : Attr) → t.left ≡ element.Attr b → t.right ≡ element.Attr c → AreOneClass (system q) a b
      → (r : Range) → IsRange (system q) c r → IsAsked q links a (window t.op r)
  right : (t : Atom) → Has links t → (b c : Attr) → t.left ≡ element.Attr c → t.right ≡ element.Attr b → AreOneClass (system q) a b
      → (r : Range) → IsRange (system q) c r → IsAsked q links a (window (flipped t.op) r)

-- the kept range of the class of a column: its own range, cut to all that is asked
pub record IsKeptRange (q : QueryValue) (links : List Atom) (a : Attr) (r : Range) : Type 0 where
  pub own : Range
  pub is_own : IsRange (system q) a own
  pub asked : List Range
  pub some : (w : Range) × Has asked w
  pub all : (w : Range) → Has asked w ↔ IsAsked q links a w
  pub is : r ≡ cut own (widest asked)
