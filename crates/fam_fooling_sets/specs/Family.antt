-- Families: rows of one stream, and for each of them rows that tell whether it was among those that came before.
use Rattle.std.specs.Prelude.{◌≡◌, ◌≢◌, ℕ, suc, ◌<◌, ◌↔◌, Bool, true, false, List, [], ◌∷◌, ◌++◌, map, length, ℤ, pos, if◌then◌else◌, Contains, IsFalse}
use Rattle.std.specs.List.{slice_index_or}
use Rattle.sem_query.specs.declared.atom.Attr.{Attr}
use Rattle.sem_query.specs.declared.condition.Condition.{Condition}
use Rattle.sem_query.specs.declared.condition.Condition.TheVariants.{C1, C2, C3}
use Rattle.sem_query.specs.Query.{QueryValue, attr_eq}
use Rattle.sem_query.specs.Meaning.{Arrival, rows, by_column, answers, new_answers}

-- the members at the marked places
abbrev pub marked : {X : Type 0} → List Bool → List X → List X
marked [] xs = []
marked (b ∷ bs) [] = []
marked (b ∷ bs) (x ∷ xs) = if b then x ∷ marked bs xs else marked bs xs

-- a stream, its rows, and for each of these the rows that ask for it
pub record FamilyValue : Type 0 where
  pub stream : ℕ
  pub rows : List (List ℤ)
  pub asking : List (List Arrival)

abbrev pub row_at : FamilyValue → ℕ → List ℤ
row_at f i = slice_index_or f.rows i []

abbrev pub asking_at : FamilyValue → ℕ → List Arrival
asking_at f i = slice_index_or f.asking i []

abbrev pub as_arrival : FamilyValue → List ℤ → Arrival
as_arrival f row = record { stream = f.stream; values = row }

-- the history of a set of numbers, which is told by its marks
abbrev pub history_of : FamilyValue → List Bool → List Arrival
history_of f marks = map (as_arrival f) (marked marks f.rows)

-- the first place of a column in SELECT
abbrev pub place_in : List Attr → Attr → ℕ
place_in [] a = 0
place_in (b ∷ bs) a = if attr_eq b a then 0 else suc (place_in bs a)

-- what tells that number i is in the set, by the condition that is broken at the column. Over one stream: the row is answered nothing
-- new. Over several, for an unbounded selected column: some answer has the row's value there; for an unbounded equality or inequality: there
-- is an answer.
pub data Shows (q : QueryValue) (a : Attr) (f : FamilyValue) (marks : List Bool) (i : ℕ) : Condition → Type 0 where
  alone : length q.from ≡ 1 → new_answers q (history_of f marks) (as_arrival f (row_at f i)) ≡ [] → Shows q a f marks i C1
  value : 1 < length q.from → (t : List ℤ) → Contains (answers q (history_of f marks ++ asking_at f i)) t
      → slice_index_or t (place_in q.select a) (pos 0) ≡ by_column (row_at f i) a.column → Shows q a f marks i C1
  some : 1 < length q.from → (t : List ℤ) → Contains (answers q (history_of f marks ++ asking_at f i)) t → Shows q a f marks i C2
  any : 1 < length q.from → (t : List ℤ) → Contains (answers q (history_of f marks ++ asking_at f i)) t → Shows q a f marks i C3

-- two sets are told apart: the rows that ask for some number have answers in different numbers after the rows of the one set and after those
-- of the other
pub record AreToldApart (q : QueryValue) (n : ℕ) (f : FamilyValue) (left right : List Bool) : Type 0 where
  pub number : ℕ
  pub below : number < n
  pub differ : length (answers q (history_of f left ++ asking_at f number)) ≢ length (answers q (history_of f right ++ asking_at f number))

-- Whatever set of the rows came before, what asks for a number tells whether it is in the set. For an unbounded equality or inequality without
-- DISTINCT it is enough that any two different sets are told apart.
pub data Tells (q : QueryValue) (condition : Condition) (a : Attr) (n : ℕ) (f : FamilyValue) : Type 0 where
  each : ((marks : List Bool) → length marks ≡ n → (i : ℕ) → i < n → (slice_index_or marks i false ≡ true) ↔ Shows q a f marks i condition) → Tells q condition a n f
  counts : (condition ≡ C1 → ⊥) → IsFalse q.distinct → 1 < length q.from
      → ((left right : List Bool) → length left ≡ n → length right ≡ n → left ≢ right → AreToldApart q n f left right) → Tells q condition a n f

-- what asks for a row: over one stream the row itself, over several no row of its stream
pub data Asks (q : QueryValue) (f : FamilyValue) (i : ℕ) : Type 0 where
  itself : length q.from ≡ 1 → asking_at f i ≡ as_arrival f (row_at f i) ∷ [] → Asks q f i
  others : 1 < length q.from → rows (asking_at f i) f.stream ≡ [] → Asks q f i

-- a family of so many rows for a condition that is broken at a column: whatever set of its rows came before, the rows that ask for a
-- row tell whether it is in the set
pub record IsFamily (q : QueryValue) (condition : Condition) (a : Attr) (n : ℕ) (f : FamilyValue) : Type 0 where
  pub stream : f.stream ≡ slice_index_or q.from a.stream 0
  pub size : length f.rows ≡ n
  pub many : length f.asking ≡ n
  pub asks : (i : ℕ) → i < n → Asks q f i
  pub tells : Tells q condition a n f
