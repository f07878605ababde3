-- How a family is made: from assignments of one part, with different values at the column.
use Rattle.std.specs.Prelude.{◌≡◌, ◌≢◌, ℕ, ◌<◌, ◌⊎◌, List, [], ◌∷◌, length, ℤ, ◌≤ℤ◌, Contains, IsFalse}
use Rattle.std.specs.List.{slice_index_or}
use Rattle.sem_query.specs.declared.atom.Attr.{Attr}
use Rattle.sem_query.specs.declared.atom.Element.TheVariants as element
use Rattle.sem_query.specs.declared.part.Sign.{Sign}
use Rattle.sem_query.specs.Query.{QueryValue, attrs_of}
use Rattle.sem_query.specs.Assignment.{Assignment, Holds}
use Rattle.sem_query.specs.Meaning.{rows, by_column}
use Rattle.sem_query.specs.Parts.{InPart}
use Rattle.sem_query.specs.Order.{IsLess}
use Rattle.fam_fooling_sets.specs.Family.{FamilyValue, row_at, asking_at}

-- the columns that the query reads at a place of FROM have the values of an assignment
abbrev pub IsRowOf : QueryValue → Assignment → ℕ → List ℤ → Type 0
IsRowOf q v place row = (a : Attr) → a.stream ≡ place → Contains (attrs_of q.atoms) a ⊎ Contains q.select a → by_column row a.column ≡ v a

-- the rows are those of an assignment: at its place of FROM the family's own, and at each other place one row
pub record AreRowsOf (q : QueryValue) (f : FamilyValue) (own i : ℕ) (v : Assignment) : Type 0 where
  pub here : IsRowOf q v own (row_at f i)
  pub others : (place : ℕ) → place < length q.from → place ≢ own
      → (row : List ℤ) × (rows (asking_at f i) (slice_index_or q.from place 0) ≡ row ∷ []) × IsRowOf q v place row

-- each number has an assignment that satisfies the query, and its rows are those of the assignment
pub record HasSolutions (q : QueryValue) (own n : ℕ) (f : FamilyValue) : Type 0 where
  pub at : ℕ → Assignment
  pub holds : (i : ℕ) → i < n → Holds q (at i)
  pub rows : (i : ℕ) → i < n → AreRowsOf q f own i (at i)

-- each number has an assignment of the part, and no two have one value at the column
pub record IsMade (q : QueryValue) (s : List Sign) (a : Attr) (n : ℕ) (f : FamilyValue) : Type 0 where
  pub at : ℕ → Assignment
  pub inside : (i : ℕ) → i < n → InPart q s (at i)
  pub apart : (i j : ℕ) → i < n → j < n → at i a ≡ at j a → i ≡ j
  pub rows : (i : ℕ) → i < n → AreRowsOf q f a.stream i (at i)

-- later assignments have x at or above y of the earlier ones
pub record Rises (n : ℕ) (at : ℕ → Assignment) (x y : Attr) : Type 0 where
  pub rises : (i j : ℕ) → i < j → j < n → at i y ≤ℤ at j x

-- and earlier ones x at or above y of the later ones
pub record Falls (n : ℕ) (at : ℕ → Assignment) (x y : Attr) : Type 0 where
  pub falls : (i j : ℕ) → i < j → j < n → at j y ≤ℤ at i x

-- x is less than y in the part, and x alone is of the place
pub record IsLeftAt (q : QueryValue) (s : List Sign) (place : ℕ) (x y : Attr) : Type 0 where
  pub less : IsLess q s (element.Attr x) (element.Attr y)
  pub here : x.stream ≡ place
  pub beside : y.stream ≢ place

-- x is less than y in the part, and y alone is of the place
pub record IsRightAt (q : QueryValue) (s : List Sign) (place : ℕ) (x y : Attr) : Type 0 where
  pub less : IsLess q s (element.Attr x) (element.Attr y)
  pub here : y.stream ≡ place
  pub beside : x.stream ≢ place

-- what a later assignment has at the place, and an earlier one elsewhere, goes against an order of the part
pub data LaterFails (q : QueryValue) (s : List Sign) (place n : ℕ) (at : ℕ → Assignment) : Type 0 where
  left : (x y : Attr) → IsLeftAt q s place x y → Rises n at x y → LaterFails q s place n at
  right : (x y : Attr) → IsRightAt q s place x y → Falls n at x y → LaterFails q s place n at

-- and what an earlier one has at the place, and a later one elsewhere
pub data EarlierFails (q : QueryValue) (s : List Sign) (place n : ℕ) (at : ℕ → Assignment) : Type 0 where
  left : (x y : Attr) → IsLeftAt q s place x y → Falls n at x y → EarlierFails q s place n at
  right : (x y : Attr) → IsRightAt q s place x y → Rises n at x y → EarlierFails q s place n at

-- with DISTINCT both fail, and without it one of them
pub data KeepsApart (q : QueryValue) (s : List Sign) (place n : ℕ) (at : ℕ → Assignment) : Type 0 where
  both : LaterFails q s place n at → EarlierFails q s place n at → KeepsApart q s place n at
  later : IsFalse q.distinct → LaterFails q s place n at → KeepsApart q s place n at
  earlier : IsFalse q.distinct → EarlierFails q s place n at → KeepsApart q s place n at
