-- What the cells of the parts answer to a row: only cells of the boxes are read, and each tuple lies in the ranges of a part.
use Rattle.std.proofs.Common.{◌≡◌, ℕ, zero, suc, ◌+◌, ◌*◌, ◌<◌, ◌==◌, cond, Bool, true, false, ℤ, List, [], ◌∷◌, ◌++◌, map, filter, length, refl, sym, ap, ap₂, ◌∙◌, subst, arith, inl, inr, replicate, All, append_assoc, slice_index_or}
use Rattle.std.specs.List.{flat_map}
use Rattle.sem_query.specs.declared.cell.Cell.{Cell}
use Rattle.sem_query.specs.declared.plan.Kind.{Kind}
use Rattle.sem_query.specs.declared.plan.PartPlan.{PartPlan}
use Rattle.sem_query.specs.Query.{QueryValue, IsWithinLimits}
use Rattle.sem_query.specs.Meaning.{Arrival, product, by_column}
use Rattle.sem_query.specs.Plan.{stream_at, dims_at}
use Rattle.sem_query.specs.Serving.{Serves}
use Rattle.sem_query.specs.Admission.{admits}
use Rattle.sem_query.specs.Boxes.{values_at}
use Rattle.sem_query.specs.Cells.{upto, FitsKind}
use Rattle.sem_query.specs.Ranges.{all_tuples}
use Rattle.sem_query.specs.Combinations.{Choice, choice, choice_of, cell_choice, choices_at, choices, chosen_values, linked, times_of, Reading, Found, found, found_in}
use Rattle.sem_query.specs.Future.{spelled_out, waiting}
use Rattle.sem_query.proofs.Has.{Has, first, later, Has-map_from, Has-filter_from, Has-from_contains, Contains-from_has}
use Rattle.sem_laws.proofs.OnePartFits.{has_cases}
use Rattle.sem_laws.proofs.Extremes.{flat_map-from, has-flat_map, upto-below}
use Rattle.sem_laws.proofs.AnyCells.{waiting-fits}
use Rattle.exec_query.specs.CellSteps.{all_found}

flat-append : {X Y : Type 0} (f : X → List Y) (xs ys : List X) → flat_map f (xs ++ ys) ≡ flat_map f xs ++ flat_map f ys
flat-append f [] ys = refl
flat-append f (x ∷ xs) ys = ap (λ r. f x ++ r) (flat-append f xs ys) ∙ sym (append_assoc (f x) (flat_map f xs) (flat_map f ys))

-- two functions that agree below a number
flat-upto : {Y : Type 0} (f g : ℕ → List Y) (n : ℕ) → ((i : ℕ) → i < n → f i ≡ g i) → flat_map f (upto (λ i. i) n) ≡ flat_map g (upto (λ i. i) n)
flat-upto f g zero h = refl
flat-upto f g (suc n) h =
    flat-append f (upto (λ i. i) n) (n ∷ [])
    ∙ (λ k. flat-upto f g n (λ i l. h i (omega (arith, l))) k ++ (h n (omega arith) k ++ []))
    ∙ sym (flat-append g (upto (λ i. i) n) (n ∷ []))

-- only the cells of the boxes of a part are read
abbrev pub Agree : PartPlan → ℕ → Reading → Reading → Type 0
Agree part streams read other = (place i : ℕ) → place < streams → i < (stream_at part place).size → read part place i ≡ other part place i

-- and of these none of the stream of the row
abbrev pub AgreeBeside : QueryValue → PartPlan → Arrival → Reading → Reading → Type 0
AgreeBeside q part r read other =
    (place i : ℕ) → place < length q.from → (r.stream == slice_index_or q.from place 0) ≡ false → i < (stream_at part place).size → read part place i ≡ other part place i

module _ (q : QueryValue) (part : PartPlan) (read other : Reading) (r : Arrival) where
  pub choices_at-same : (place stream : ℕ) → ((i : ℕ) → i < (stream_at part place).size → read part place i ≡ other part place i)
      → choices_at q part read r place stream ≡ choices_at q part other r place stream
  choices_at-same place stream h =
      ap (λ xs. cond (r.stream == stream) (cond (admits q part place (by_column r.values)) (choice (by_column r.values) 1) []) xs)
      (flat-upto (λ i. cell_choice q part place i (read part place i)) (λ i. cell_choice q part place i (other part place i)) (stream_at part place).size
      (λ i l. ap (cell_choice q part place i) (h i l)))

  choices-same : (n place : ℕ) (from : List ℕ) → place + length from ≡ n → Agree part n read other
      → choices q part read r place from ≡ choices q part other r place from
  choices-same n place [] e h = refl
  choices-same n place (stream ∷ from) e h =
      ap₂ (λ (x : List Choice) (xs : List (List Choice)). x ∷ xs) (choices_at-same place stream (λ i l. h place i (omega (arith, e)) l))
      (choices-same n (suc place) from (omega (arith, e)) h)

  pub found-same : Agree part (length q.from) read other → found_in q part read r ≡ found_in q part other r
  unfolding found_in
  found-same h =
      ap (λ cs. map (found q) (filter (λ chosen. linked part (chosen_values chosen)) (product cs))) (choices-same (length q.from) 0 q.from (omega arith) h)

  choices_at-beside : (place stream : ℕ) → ((r.stream == stream) ≡ false → (i : ℕ) → i < (stream_at part place).size → read part place i ≡ other part place i)
      → choices_at q part read r place stream ≡ choices_at q part other r place stream
  choices_at-beside place stream h = by (r.stream == stream) refl
    where
      own : List Choice
      own = cond (admits q part place (by_column r.values)) (choice (by_column r.values) 1) []

      by : (b : Bool) → (r.stream == stream) ≡ b
          → cond b own (flat_map (λ i. cell_choice q part place i (read part place i)) (upto (λ i. i) (stream_at part place).size))
          ≡ cond b own (flat_map (λ i. cell_choice q part place i (other part place i)) (upto (λ i. i) (stream_at part place).size))
      by true e = refl
      by false e =
          flat-upto (λ i. cell_choice q part place i (read part place i)) (λ i. cell_choice q part place i (other part place i)) (stream_at part place).size
          (λ i l. ap (cell_choice q part place i) (h e i l))

  choices-beside : (place : ℕ) (from : List ℕ) → place + length from ≡ length q.from
      → ((k : ℕ) → k < length from → slice_index_or from k 0 ≡ slice_index_or q.from (place + k) 0) → AgreeBeside q part r read other
      → choices q part read r place from ≡ choices q part other r place from
  choices-beside place [] e f h = refl
  choices-beside place (stream ∷ from) e f h =
      let s : stream ≡ slice_index_or q.from place 0 = f 0 (omega arith) ∙ ap (λ (n : ℕ). slice_index_or q.from n 0) (let z : place + 0 ≡ place = omega arith in z) in
      ap₂ (λ (x : List Choice) (xs : List (List Choice)). x ∷ xs)
      (choices_at-beside place stream (λ o i l. h place i (omega (arith, e)) (ap (λ (t : ℕ). r.stream == t) (sym s) ∙ o) l))
      (choices-beside (suc place) from (omega (arith, e)) (λ k l. f (suc k) (omega (arith, l)) ∙ ap (λ (n : ℕ). slice_index_or q.from n 0) (let z : place + suc k ≡ suc place + k = omega arith in z)) h)

  -- the cells of the row's own stream are not read
  pub found-beside : AgreeBeside q part r read other → found_in q part read r ≡ found_in q part other r
  unfolding found_in
  found-beside h =
      ap (λ cs. map (found q) (filter (λ chosen. linked part (chosen_values chosen)) (product cs))) (choices-beside 0 q.from (omega arith) (λ k l. ap (λ (n : ℕ). slice_index_or q.from n 0) (let z : k ≡ 0 + k = omega arith in z)) h)

-- the parts one after the other
pub all_found-same : (q : QueryValue) (read other : Reading) (r : Arrival) (plan : List PartPlan)
    → ((part : PartPlan) → Has plan part → Agree part (length q.from) read other) → all_found q plan read r ≡ all_found q plan other r
all_found-same q read other r [] h = refl
all_found-same q read other r (part ∷ plan) h =
    ap₂ (λ (xs ys : List Found). xs ++ ys) (found-same q part read other r (h part first)) (all_found-same q read other r plan (λ p k. h p (later k)))

pub all_found-append : (q : QueryValue) (read : Reading) (r : Arrival) (plan more : List PartPlan)
    → all_found q (plan ++ more) read r ≡ all_found q plan read r ++ all_found q more read r
all_found-append q read r plan more = flat-append (λ part. found_in q part read r) plan more

-- spelled out it is what waits
pub all_found-spelled : (q : QueryValue) (plan : List PartPlan) (read : Reading) (r : Arrival) → spelled_out (all_found q plan read r) ≡ waiting q plan read r
all_found-spelled q [] read r = refl
all_found-spelled q (part ∷ plan) read r =
    flat-append (λ f. replicate f.count f.tuple) (found_in q part read r) (all_found q plan read r)
    ∙ ap (λ ts. spelled_out (found_in q part read r) ++ ts) (all_found-spelled q plan read r)

-- each combination stands for at least one
positive_product : (a b : ℕ) → 0 < a → 0 < b → 0 < a * b
positive_product a b h k = grind arith

positive_choice : (q : QueryValue) (part : PartPlan) (place : ℕ) (xs : List ℤ) (kind : Kind) (cell : Cell) → FitsKind kind cell
    → (c : Choice) → Has (choice_of q part place xs cell) c → 0 < c.times
positive_choice q part place xs kind Cell.Empty fit c h = elim h [ ]
positive_choice q part place xs Kind.Count (Cell.Count n) fit c h = elim (has_cases _ c [] h) [ inl e ↦ subst (λ (d : Choice). 0 < d.times) e fit.0 | inr k ↦ elim k [ ] ]
positive_choice q part place xs Kind.Present (Cell.Count n) fit c h = absurd fit
positive_choice q part place xs (Kind.Least a) (Cell.Count n) fit c h = absurd fit
positive_choice q part place xs (Kind.Greatest a) (Cell.Count n) fit c h = absurd fit
positive_choice q part place xs kind Cell.Present fit c h = elim (has_cases _ c [] h) [ inl e ↦ subst (λ (d : Choice). 0 < d.times) e (omega arith) | inr k ↦ elim k [ ] ]
positive_choice q part place xs kind (Cell.Extreme z) fit c h = elim (has_cases _ c [] h) [ inl e ↦ subst (λ (d : Choice). 0 < d.times) e (omega arith) | inr k ↦ elim k [ ] ]

module _ (q : QueryValue) (part : PartPlan) (read : Reading) (r : Arrival) (fitting : (place i : ℕ) → place < length q.from → i < (stream_at part place).size → FitsKind (stream_at part place).kind (read part place i)) where
  positive_at : (place stream : ℕ) → place < length q.from → (c : Choice) → Has (choices_at q part read r place stream) c → 0 < c.times
  positive_at place stream l c = by (r.stream == stream) (admits q part place (by_column r.values))
    where
      by : (a b : Bool)
          → Has (cond a (cond b (choice (by_column r.values) 1) []) (flat_map (λ i. cell_choice q part place i (read part place i)) (upto (λ i. i) (stream_at part place).size))) c → 0 < c.times
      by true true h = elim (has_cases _ c [] h) [ inl e ↦ subst (λ (d : Choice). 0 < d.times) e (omega arith) | inr k ↦ elim k [ ] ]
      by true false h = elim h [ ]
      by false b h =
          let m = flat_map-from (λ i. cell_choice q part place i (read part place i)) (upto (λ i. i) (stream_at part place).size) c h in
          positive_choice q part place (values_at (dims_at part place) m.0) (stream_at part place).kind (read part place m.0) (fitting place m.0 l (upto-below _ m.0 m.1)) c m.2

  positive_all : (place : ℕ) (from : List ℕ) → place + length from ≡ length q.from → (chosen : List Choice)
      → Has (product (choices q part read r place from)) chosen → 0 < times_of chosen
  positive_all place [] e chosen h = elim (has_cases [] chosen [] h) [ inl k ↦ subst (λ cs. 0 < times_of cs) k (omega arith) | inr k ↦ elim k [ ] ]
  positive_all place (stream ∷ from) e chosen h =
      let m = flat_map-from (λ x. map (λ c. x ∷ c) (product (choices q part read r (suc place) from))) (choices_at q part read r place stream) chosen h in
      let u = Has-map_from (λ c. m.0 ∷ c) (product (choices q part read r (suc place) from)) chosen m.2 in
      subst (λ cs. 0 < times_of cs) u.2
      (positive_product m.0.times (times_of u.0) (positive_at place stream (omega (arith, e)) m.0 m.1) (positive_all (suc place) from (omega (arith, e)) u.0 u.1))

  -- what is found is answered at least once
  pub positive : (f : Found) → Has (found_in q part read r) f → 0 < f.count
  unfolding found_in
  positive f h =
      let m = Has-map_from (found q) (filter (λ chosen. linked part (chosen_values chosen)) (product (choices q part read r 0 q.from))) f h in
      subst (λ (g : Found). 0 < g.count) m.2
      (positive_all 0 q.from (omega arith) m.0 (Has-filter_from (λ chosen. linked part (chosen_values chosen)) (product (choices q part read r 0 q.from)) m.0 m.1))

pub has-replicate : (n : ℕ) (t : List ℤ) → 0 < n → Has (replicate n t) t
has-replicate zero t l = absurd (omega (arith, l))
has-replicate (suc n) t l = first

-- what is found lies in the ranges of some part
pub found_lies : (q : QueryValue) (plan : List PartPlan) → IsWithinLimits q → All (Serves q) plan
    → (read : Reading) (r : Arrival)
    → ((part : PartPlan) → Has plan part → (place i : ℕ) → place < length q.from → i < (stream_at part place).size → FitsKind (stream_at part place).kind (read part place i))
    → (f : Found) → Has (all_found q plan read r) f → Has (all_tuples q plan) f.tuple
found_lies q plan within serves read r fitting f h =
    let m = flat_map-from (λ part. found_in q part read r) plan f h in
    let p : 0 < f.count = positive q m.0 read r (fitting m.0 m.1) f m.2 in
    let k : Has (spelled_out (found_in q m.0 read r)) f.tuple = has-flat_map (λ g. replicate g.count g.tuple) (found_in q m.0 read r) f f.tuple m.2 (has-replicate f.count f.tuple p) in
    let w : Has (waiting q plan read r) f.tuple = has-flat_map (λ part. spelled_out (found_in q part read r)) plan m.0 f.tuple m.1 k in
    Has-from_contains (all_tuples q plan) f.tuple (waiting-fits q plan within serves read r f.tuple (Contains-from_has (waiting q plan read r) f.tuple w))
