-- The cells of a history of few rows with values within a bound are among few.
use Rattle.std.proofs.Common.{◌≡◌, ◌≢◌, ◌↔◌, All, ℕ, zero, suc, ◌<◌, ◌≤◌, ◌+◌, ◌*◌, ◌⊎◌, inl, inr, List, [], ◌∷◌, filter, length, cond, Bool, true, false, ◌&&◌, ◌==◌, nat_eq, refl, sym, subst, arith, ℤ, pos, negsuc, nat_abs, int_lt, slice_index_or}
use Rattle.std.proofs.lemmas.List.{length-map}
use Rattle.std.proofs.lemmas.List.Elements.{All-contains}
use Rattle.sem_query.proofs.Has.{Has, first, later, Has-append_cases, Has-map_from, Has-filter_from, Contains-from_has}
use Rattle.sem_query.specs.declared.atom.Attr.{Attr}
use Rattle.sem_query.specs.declared.cell.Cell.{Cell}
use Rattle.sem_query.specs.declared.plan.Kind.{Kind}
use Rattle.sem_query.specs.declared.plan.PartPlan.{PartPlan}
use Rattle.sem_query.specs.declared.plan.StreamPlan.{StreamPlan}
use Rattle.sem_query.specs.Query.{QueryValue}
use Rattle.sem_query.specs.Meaning.{Arrival, rows, by_column}
use Rattle.sem_query.specs.Plan.{stream_at}
use Rattle.sem_query.specs.Serving.{KeepsStreams}
use Rattle.sem_query.specs.Cells.{least, greatest, content, cell_of, row_place, upto, by_box, laid_out, synopsis}
use Rattle.sem_query.specs.Admission.{admits}
use Rattle.sem_lower_bounds.specs.States.{IsWithin, AreWithin}

equal_or_less : (m n : ℕ) → m ≤ n → (m ≡ n) ⊎ (suc m ≤ n)
equal_or_less m n h = grind arith

-- a cell that counts up to n rows
pub counting : ℕ → List Cell
counting zero = Cell.Empty ∷ []
counting (suc n) = Cell.Count (suc n) ∷ counting n

-- a cell that has no row, some row, or an extreme within a bound
pub valued : ℕ → List Cell
valued zero = Cell.Empty ∷ Cell.Present ∷ Cell.Extreme (pos 0) ∷ []
valued (suc b) = Cell.Extreme (pos (suc b)) ∷ Cell.Extreme (negsuc b) ∷ valued b

-- the cells that a query may keep
abbrev pub contents : Bool → ℕ → ℕ → List Cell
contents true n bound = valued bound
contents false n bound = counting n

length-counting : (n : ℕ) → length (counting n) ≡ n + 1
unfolding counting
length-counting zero = refl
length-counting (suc n) = omega (arith, length-counting n)

pub length-valued : (b : ℕ) → length (valued b) ≡ 2 * b + 3
unfolding valued
length-valued zero = refl
length-valued (suc b) = omega (arith, length-valued b)

pub length-contents : (d : Bool) (n bound : ℕ) → length (contents d n bound) ≡ cond d (2 * bound + 3) (n + 1)
length-contents true n bound = length-valued bound
length-contents false n bound = length-counting n

empty-counting : (n : ℕ) → Has (counting n) Cell.Empty
unfolding counting
empty-counting zero = first
empty-counting (suc n) = later (empty-counting n)

count-counting : (n k : ℕ) → suc k ≤ n → Has (counting n) (Cell.Count (suc k))
unfolding counting
count-counting zero k l = absurd (omega (arith, l))
count-counting (suc n) k l = elim (equal_or_less k n (omega (arith, l))) [
  | inl e ↦ subst (λ (m : ℕ). Has (Cell.Count (suc n) ∷ counting n) (Cell.Count (suc m))) (sym e) first
  | inr m ↦ later (count-counting n k m)
]

pub empty-valued : (b : ℕ) → Has (valued b) Cell.Empty
unfolding valued
empty-valued zero = first
empty-valued (suc b) = later (later (empty-valued b))

pub present-valued : (b : ℕ) → Has (valued b) Cell.Present
unfolding valued
present-valued zero = later first
present-valued (suc b) = later (later (present-valued b))

pub extreme-valued : (b : ℕ) (z : ℤ) → nat_abs z ≤ b → Has (valued b) (Cell.Extreme z)
unfolding valued
extreme-valued zero (pos n) l =
    let e : 0 ≡ n = omega (arith, l) in
    subst (λ (m : ℕ). Has (valued 0) (Cell.Extreme (pos m))) e (later (later first))
extreme-valued zero (negsuc n) l = let k : suc n ≤ 0 = l in absurd (omega (arith, k))
extreme-valued (suc b) (pos n) l = elim (equal_or_less n (suc b) l) [
  | inl e ↦ subst (λ (m : ℕ). Has (valued (suc b)) (Cell.Extreme (pos m))) (sym e) first
  | inr m ↦ later (later (extreme-valued b (pos n) (omega (arith, m))))
]
extreme-valued (suc b) (negsuc n) l = elim (equal_or_less n b (omega (arith, step n l))) [
  | inl e ↦ subst (λ (m : ℕ). Has (valued (suc b)) (Cell.Extreme (negsuc m))) (sym e) (later first)
  | inr m ↦ later (later (extreme-valued b (negsuc n) m))
]
  where
    step : (n : ℕ) → suc n ≤ suc b → n ≤ b
    step n k = omega (arith, k)

pub value-within : (most : ℕ) (row : List ℤ) (column : ℕ) → IsWithin most row → nat_abs (slice_index_or row column (pos 0)) ≤ most
value-within most [] column h = omega arith
value-within most (z ∷ row) zero h = h.0
value-within most (z ∷ row) (suc column) h = value-within most row column h.1

either-within : (most : ℕ) (b : Bool) (x y : ℤ) → nat_abs x ≤ most → nat_abs y ≤ most → nat_abs (cond b x y) ≤ most
either-within most true x y h k = h
either-within most false x y h k = k

-- all rows are within the bound
abbrev AllWithin : ℕ → List (List ℤ) → Type 0
AllWithin most rows = (row : List ℤ) → Has rows row → IsWithin most row

least-within : (most : ℕ) (a : Attr) (z : ℤ) (rows : List (List ℤ)) → nat_abs z ≤ most → AllWithin most rows → nat_abs (least a z rows) ≤ most
least-within most a z [] k h = k
least-within most a z (row ∷ rows) k h =
    let v : ℤ = by_column row a.column in
    least-within most a (cond (int_lt v z) v z) rows (either-within most (int_lt v z) v z (value-within most row a.column (h row first)) k) (λ other i. h other (later i))

greatest-within : (most : ℕ) (a : Attr) (z : ℤ) (rows : List (List ℤ)) → nat_abs z ≤ most → AllWithin most rows → nat_abs (greatest a z rows) ≤ most
greatest-within most a z [] k h = k
greatest-within most a z (row ∷ rows) k h =
    let v : ℤ = by_column row a.column in
    greatest-within most a (cond (int_lt z v) v z) rows (either-within most (int_lt z v) v z (value-within most row a.column (h row first)) k) (λ other i. h other (later i))

-- cells that do not count are those of DISTINCT
not-counted : (d : Bool) (kind : Kind) → (kind ≡ Kind.Count) ↔ (d ≡ false) → kind ≢ Kind.Count → d ≡ true
not-counted true kind k n = refl
not-counted false kind k n = absurd (n (k.1 refl))

content-among : (q : QueryValue) (n bound : ℕ) (kind : Kind) → (kind ≡ Kind.Count) ↔ (q.distinct ≡ false) → (rows : List (List ℤ)) → length rows ≤ n → AllWithin bound rows
    → Has (contents q.distinct n bound) (content kind rows)
content-among q n bound Kind.Count k [] l h = subst (λ d. Has (contents d n bound) Cell.Empty) (sym (k.0 refl)) (empty-counting n)
content-among q n bound Kind.Count k (row ∷ rows) l h =
    subst (λ d. Has (contents d n bound) (Cell.Count (suc (length rows)))) (sym (k.0 refl)) (count-counting n (length rows) l)
content-among q n bound Kind.Present k [] l h =
    subst (λ d. Has (contents d n bound) Cell.Empty) (sym (not-counted q.distinct Kind.Present k (λ e. cc))) (empty-valued bound)
content-among q n bound Kind.Present k (row ∷ rows) l h =
    subst (λ d. Has (contents d n bound) Cell.Present) (sym (not-counted q.distinct Kind.Present k (λ e. cc))) (present-valued bound)
content-among q n bound (Kind.Least a) k [] l h =
    subst (λ d. Has (contents d n bound) Cell.Empty) (sym (not-counted q.distinct (Kind.Least a) k (λ e. cc))) (empty-valued bound)
content-among q n bound (Kind.Least a) k (row ∷ rows) l h =
    subst (λ d. Has (contents d n bound) (Cell.Extreme (least a (by_column row a.column) rows))) (sym (not-counted q.distinct (Kind.Least a) k (λ e. cc)))
    (extreme-valued bound (least a (by_column row a.column) rows)
    (least-within bound a (by_column row a.column) rows (value-within bound row a.column (h row first)) (λ other i. h other (later i))))
content-among q n bound (Kind.Greatest a) k [] l h =
    subst (λ d. Has (contents d n bound) Cell.Empty) (sym (not-counted q.distinct (Kind.Greatest a) k (λ e. cc))) (empty-valued bound)
content-among q n bound (Kind.Greatest a) k (row ∷ rows) l h =
    subst (λ d. Has (contents d n bound) (Cell.Extreme (greatest a (by_column row a.column) rows))) (sym (not-counted q.distinct (Kind.Greatest a) k (λ e. cc)))
    (extreme-valued bound (greatest a (by_column row a.column) rows)
    (greatest-within bound a (by_column row a.column) rows (value-within bound row a.column (h row first)) (λ other i. h other (later i))))

filter-shorter : {X : Type 0} (p : X → Bool) (xs : List X) → length (filter p xs) ≤ length xs
filter-shorter p [] = omega arith
filter-shorter {X} p (x ∷ xs) = by (p x) (filter-shorter p xs)
  where
    by : (b : Bool) → length (filter p xs) ≤ length xs → length (cond b (x ∷ filter p xs) (filter p xs)) ≤ length (x ∷ xs)
    by true h = omega (arith, h)
    by false h = omega (arith, h)

arrival-within : (most : ℕ) (h : List Arrival) (r : Arrival) → AreWithin most h → Has h r → IsWithin most r.values
arrival-within most [] r w k = elim k [ ]
arrival-within most (r ∷ h) o w first = w.0
arrival-within most (r ∷ h) o w (later k) = arrival-within most h o w.1 k

module _ (n bound : ℕ) (h : List Arrival) (few : length h ≤ n) (within : AreWithin bound h) where
  rows-few : (stream : ℕ) → length (rows h stream) ≤ n
  rows-few stream =
      omega (arith, length-map (filter (λ (r : Arrival). r.stream == stream) h) (λ (r : Arrival). r.values), filter-shorter (λ (r : Arrival). r.stream == stream) h)

  rows-within : (stream : ℕ) → AllWithin bound (rows h stream)
  rows-within stream row k =
      let s : (r : Arrival) × Has (filter (λ (r : Arrival). r.stream == stream) h) r × (r.values ≡ row)
      = Has-map_from (λ (r : Arrival). r.values) (filter (λ (r : Arrival). r.stream == stream) h) row k in
      subst (IsWithin bound) s.2 (arrival-within bound h s.0 within (Has-filter_from (λ (r : Arrival). r.stream == stream) h s.0 s.1))

  cell-among : (q : QueryValue) (part : PartPlan) → KeepsStreams q part → (place i : ℕ) → place < length part.streams.items → Has (contents q.distinct n bound) (cell_of q h part place i)
  cell-among q part keeps place i l =
      let test : List ℤ → Bool = λ row. admits q part place (by_column row) && nat_eq (row_place (stream_at part place).dims.items (by_column row)) i in
      let all : List (List ℤ) = rows h (slice_index_or q.from place 0) in
      content-among q n bound (stream_at part place).kind (keeps.kind place (omega (arith, l, keeps.count))) (filter test all)
      (omega (arith, filter-shorter test all, rows-few (slice_index_or q.from place 0)))
      (λ row k. rows-within (slice_index_or q.from place 0) row (Has-filter_from test all row k))

-- what holds of all that is laid out
module _ {X : Type 0} (P : X → Type 0) where
  all-upto : (f : ℕ → X) (n : ℕ) → ((i : ℕ) → P (f i)) → (x : X) → Has (upto f n) x → P x
  all-upto f zero h x k = elim k [ ]
  all-upto f (suc n) h x k = elim (Has-append_cases (upto f n) (f n ∷ []) x k) [
    | inl i ↦ all-upto f n h x i
    | inr i ↦ only (f n) (h n) x i
  ]
    where
      only : (y : X) → P y → (z : X) → Has (y ∷ []) z → P z
      only y p z first = p
      only y p z (later i) = elim i [ ]

  all-boxes : (f : ℕ → ℕ → X) (start end : ℕ) (streams : List StreamPlan) → end ≡ start + length streams → ((place i : ℕ) → place < end → P (f place i))
      → (x : X) → Has (by_box f start streams) x → P x
  all-boxes f start end [] e h x k = elim k [ ]
  all-boxes f start end (s ∷ streams) e h x k = elim (Has-append_cases (upto (f start) s.size) (by_box f (suc start) streams) x k) [
    | inl i ↦ all-upto (f start) s.size (λ j. h start j (omega (arith, e))) x i
    | inr i ↦ all-boxes f (suc start) end streams (omega (arith, e)) h x i
  ]

  all-laid_out : (f : PartPlan → ℕ → ℕ → X) (plan : List PartPlan)
      → ((part : PartPlan) → Has plan part → (place i : ℕ) → place < length part.streams.items → P (f part place i))
      → (x : X) → Has (laid_out f plan) x → P x
  all-laid_out f [] h x k = elim k [ ]
  all-laid_out f (part ∷ plan) h x k = elim (Has-append_cases (by_box (f part) 0 part.streams.items) (laid_out f plan) x k) [
    | inl i ↦ all-boxes (f part) 0 (length part.streams.items) part.streams.items (omega arith) (h part first) x i
    | inr i ↦ all-laid_out f plan (λ p j. h p (later j)) x i
  ]

pub synopsis-among : (q : QueryValue) (plan : List PartPlan) → All (KeepsStreams q) plan → (n bound : ℕ) (h : List Arrival) → length h ≤ n → AreWithin bound h
    → (c : Cell) → Has (synopsis q plan h) c → Has (contents q.distinct n bound) c
unfolding synopsis
synopsis-among q plan keep n bound h few within c k =
    all-laid_out (Has (contents q.distinct n bound)) (cell_of q h) plan
    (λ part j place i l. cell-among n bound h few within q part (All-contains (KeepsStreams q) plan part keep (Contains-from_has plan part j)) place i l) c k
