-- What is kept of each stream by the whole form, and which queries have no such form.
use Rattle.std.specs.Prelude.{◌≡◌, ℕ, ◌<◌, ◌⊎◌, ℤ, Bool, IsTrue, List, map, filter, length, Contains, ◌↔◌, [], ◌∷◌}
use Rattle.std.specs.List.{slice_index_or}
use Rattle.std.specs.declared.option.Option.TheVariants.{Some}
use Rattle.sem_query.specs.declared.atom.Attr.{Attr}
use Rattle.sem_query.specs.declared.atom.Atom.{Atom}
use Rattle.sem_query.specs.declared.atom.Element.TheVariants as element
use Rattle.sem_query.specs.declared.atom.Op.{Op}
use Rattle.sem_query.specs.declared.cell.Cell.{Cell}
use Rattle.sem_query.specs.declared.condition.Condition.{Condition}
use Rattle.sem_query.specs.declared.condition.Condition.TheVariants.{C1, C2, C3}
use Rattle.sem_query.specs.declared.plan.Dim.{Dim}
use Rattle.sem_query.specs.declared.plan.Kind.{Kind}
use Rattle.sem_query.specs.Members.{Has}
use Rattle.sem_query.specs.Query.{QueryValue, attr_lt}
use Rattle.sem_query.specs.Meaning.{Arrival, rows, by_column}
use Rattle.sem_query.specs.Tuples.{is_same}
use Rattle.sem_query.specs.Cells.{content}
use Rattle.sem_whole.specs.System.{system, AreOneClass, MeetsLocal}
use Rattle.sem_whole.specs.Links.{AreLinks}
use Rattle.sem_whole.specs.Ranges.{Range, range, kept}
use Rattle.sem_whole.specs.Kept.{IsRange, IsKeptAsItIs, IsKeptRange}

-- a class of columns of one stream, by one of them, and the range that is kept of it
pub record KeptDim : Type 0 where
  pub attr : Attr
  pub range : Range

-- what is kept of one stream: a cell for each combination of kept values of the dims
pub record StreamKeep : Type 0 where
  pub dims : List KeptDim
  pub kind : Kind

-- a column that is selected or stands in a link
pub data IsRead (q : QueryValue) (links : List Atom) (a : Attr) : Type 0 where
  selected : Contains q.select a → IsRead q links a
  left : (t : Atom) → Has links t → t.left ≡ element.Attr a → IsRead q links a
  right : (t : Atom) → Has links t → t.right ≡ element.Attr a → IsRead q links a

-- the class of a is not kept as it is, and in links its columns stand on the left of `<` and `<=` alone
pub record IsLeftAlone (q : QueryValue) (links : List Atom) (a : Attr) : Type 0 where
  pub other : IsKeptAsItIs q links a → ⊥
  pub left : (t : Atom) → Has links t → (b : Attr) → AreOneClass (system q) a b → t.left ≡ element.Attr b → (t.op ≡ Op.Lt) ⊎ (t.op ≡ Op.Le)
  pub right : (t : Atom) → Has links t → (b : Attr) → AreOneClass (system q) a b → t.right ≡ element.Attr b → ⊥

-- or on the right alone
pub record IsRightAlone (q : QueryValue) (links : List Atom) (a : Attr) : Type 0 where
  pub other : IsKeptAsItIs q links a → ⊥
  pub left : (t : Atom) → Has links t → (b : Attr) → AreOneClass (system q) a b → t.left ≡ element.Attr b → ⊥
  pub right : (t : Atom) → Has links t → (b : Attr) → AreOneClass (system q) a b → t.right ≡ element.Attr b → (t.op ≡ Op.Lt) ⊎ (t.op ≡ Op.Le)

-- what the kind of a cell asks: a count without DISTINCT, and with it that there are rows, or the extreme of a class on one side
abbrev pub IsWholeKind : QueryValue → List Atom → ℕ → Kind → Type 0
IsWholeKind q links place Kind.Count = q.distinct ≡ Bool.false
IsWholeKind q links place Kind.Present = q.distinct ≡ Bool.true
IsWholeKind q links place (Kind.Least e) = (q.distinct ≡ Bool.true) × (e.stream ≡ place) × IsLeftAlone q links e
IsWholeKind q links place (Kind.Greatest e) = (q.distinct ≡ Bool.true) × (e.stream ≡ place) × IsRightAlone q links e

-- a column that is read is of the class of a dim, or of that of the extreme
pub data IsServed (q : QueryValue) (s : StreamKeep) (a : Attr) : Type 0 where
  dim : (d : KeptDim) → Has s.dims d → AreOneClass (system q) d.attr a → IsServed q s a
  least : (e : Attr) → s.kind ≡ Kind.Least e → AreOneClass (system q) e a → IsServed q s a
  greatest : (e : Attr) → s.kind ≡ Kind.Greatest e → AreOneClass (system q) e a → IsServed q s a

-- what is kept of the stream at a place serves each column of it that is read
pub record Serves (q : QueryValue) (links : List Atom) (place : ℕ) (s : StreamKeep) : Type 0 where
  pub kind : IsWholeKind q links place s.kind
  pub stream : (d : KeptDim) → Has s.dims d → d.attr.stream ≡ place
  pub range : (d : KeptDim) → Has s.dims d → IsKeptRange q links d.attr d.range
  pub all : (a : Attr) → a.stream ≡ place → IsRead q links a → IsServed q s a

-- a whole form: the links, what is kept of the stream at each place, and the test of the local conditions
pub record Form : Type 0 where
  pub links : List Atom
  pub keeps : ℕ → StreamKeep
  pub admits : ℕ → (ℕ → ℤ) → Bool

-- a row of the stream at a place, by its values by column, meets the local conditions
abbrev pub RowMeets : QueryValue → ℕ → (ℕ → ℤ) → Type 0
RowMeets q place v = MeetsLocal q place (λ a. v a.column)

-- the form is one of the query
pub record IsWholeForm (q : QueryValue) (f : Form) : Type 0 where
  pub links : AreLinks q f.links
  pub ranges : (a : Attr) → IsRead q f.links a → (r : Range) × IsRange (system q) a r
  pub serves : (place : ℕ) → place < length q.from → Serves q f.links place (f.keeps place)
  pub admits : (place : ℕ) → place < length q.from → (v : ℕ → ℤ) → IsTrue (f.admits place v) ↔ RowMeets q place v

-- the kept values of the dims in a row
abbrev pub key_of : StreamKeep → (ℕ → ℤ) → List ℤ
key_of s v = map (λ d. kept d.range (v d.attr.column)) s.dims

-- the admitted rows of a history at a place, and those of one cell
abbrev pub admitted_rows : QueryValue → Form → List Arrival → ℕ → List (List ℤ)
admitted_rows q f h place = filter (λ row. f.admits place (by_column row)) (rows h (slice_index_or q.from place 0))

abbrev pub rows_of_key : QueryValue → Form → List Arrival → ℕ → List ℤ → List (List ℤ)
rows_of_key q f h place key = filter (λ row. is_same key (key_of (f.keeps place) (by_column row))) (admitted_rows q f h place)

-- the cell of a key: a count, a presence or an extreme
abbrev pub cell_at : QueryValue → Form → List Arrival → ℕ → List ℤ → Cell
cell_at q f h place key = content (f.keeps place).kind (rows_of_key q f h place key)

-- two histories with the same cells
abbrev pub SameCells : QueryValue → Form → List Arrival → List Arrival → Type 0
SameCells q f g h = (place : ℕ) → place < length q.from → (key : List ℤ) → cell_at q f g place key ≡ cell_at q f h place key

-- both ends are there
pub record IsFinite (r : Range) : Type 0 where
  pub lo : ℤ
  pub hi : ℤ
  pub low : r.lo ≡ Some lo
  pub high : r.hi ≡ Some hi

-- a range of some kind that is not finite
abbrev pub IsOpen : (Range → Type 0) → Type 0
IsOpen P = (r : Range) × P r × ¬ IsFinite r

-- a column in a link whose kept range is open
pub record IsOpenSide (q : QueryValue) (links : List Atom) (a : Attr) : Type 0 where
  pub link : Atom
  pub among : Has links link
  pub side : (link.left ≡ element.Attr a) ⊎ (link.right ≡ element.Attr a)
  pub unbounded : IsOpen (IsKeptRange q links a)

-- a column of its class stands in a link `<>`
pub record IsUnlike (q : QueryValue) (links : List Atom) (a : Attr) : Type 0 where
  pub link : Atom
  pub among : Has links link
  pub unlike : link.op ≡ Op.Ne
  pub other : Attr
  pub class : AreOneClass (system q) a other
  pub side : (link.left ≡ element.Attr other) ⊎ (link.right ≡ element.Attr other)

-- it may be the extreme of its stream
abbrev pub IsOneWay : QueryValue → List Atom → Attr → Type 0
IsOneWay q links a = IsLeftAlone q links a ⊎ IsRightAlone q links a

-- an open class that comes before it in its stream is the extreme already
pub record HasEarlier (q : QueryValue) (links : List Atom) (a : Attr) : Type 0 where
  pub first : Attr
  pub stream : first.stream ≡ a.stream
  pub unbounded : IsOpenSide q links first
  pub way : IsOneWay q links first
  pub before : IsTrue (attr_lt first a)
  pub apart : ¬ AreOneClass (system q) first a

-- the whole form breaks the condition, and the column shows it. C1: a selected column has an open range. C2, C3: so has a class in
-- links, and it is not the extreme of its stream; C2 where it is kept as it is or in a link `<>`, else C3
abbrev pub WholeBreaks : QueryValue → List Atom → Condition → Attr → Type 0
WholeBreaks q links C1 a = Contains q.select a × IsOpen (IsRange (system q) a)
WholeBreaks q links C2 a = IsOpenSide q links a × (IsKeptAsItIs q links a ⊎ IsUnlike q links a)
WholeBreaks q links C3 a =
    IsOpenSide q links a × (¬ IsKeptAsItIs q links a) × (¬ IsUnlike q links a)
    × (IsTrue q.distinct → IsOneWay q links a → HasEarlier q links a)

-- the dims of the boxes, where each kept range has both ends
abbrev pub AreBoxed : List KeptDim → List Dim → Type 0
AreBoxed [] [] = Unit {0}
AreBoxed [] (e ∷ dims) = ⊥
AreBoxed (d ∷ kept) [] = ⊥
AreBoxed (d ∷ kept) (e ∷ dims) = (d.attr ≡ e.attr) × (d.range ≡ range (Some e.lo) (Some e.hi)) × AreBoxed kept dims

-- each kept range of the form has both ends
abbrev pub HasFiniteRanges : QueryValue → Form → Type 0
HasFiniteRanges q f = (place : ℕ) → place < length q.from → (d : KeptDim) → Has (f.keeps place).dims d → IsFinite d.range
