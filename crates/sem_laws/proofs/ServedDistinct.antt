-- With DISTINCT: something waits for a tuple exactly where the row adds to its count.
use Rattle.std.proofs.Common.{◌≡◌, ℕ, suc, ◌+◌, ◌<◌, List, [], ◌∷◌, ◌++◌, map, filter, length, cond, Bool, true, false, ◌&&◌, ◌==◌, refl, sym, ap, ◌∙◌, subst, arith, nat_eq, ℤ}
use Rattle.std.specs.List.{flat_map, slice_index_or}
use Rattle.std.proofs.lemmas.List.Elements.{All-contains}
use Rattle.std.proofs.lemmas.List.{length-map}
use Rattle.sem_query.proofs.Has.{Has, Contains-from_has, Has-map, Has-map_from, Has-filter, Has-filter_from}
use Rattle.sem_laws.proofs.Sums.{sums, passing}
use Rattle.sem_laws.proofs.Weights.{View, W}
use Rattle.sem_laws.proofs.Tests.{and-left, and-right, and-both, filter-passes, nat_true}
use Rattle.sem_laws.proofs.Counts.{times-answers, gives, arrived, Once, nested-more, linked_gives, once_each, admitted}
use Rattle.sem_laws.proofs.CountsGrow.{IsTail, Stands, times-waiting}
use Rattle.sem_laws.proofs.Extremes.{Partnered, AllPartnered, exchanged, has-flat_map, flat_map-from, has-upto, upto-below, some-summand, summand-counts}
use Rattle.sem_laws.proofs.NewAnswers.{distinct-suffices}
use Rattle.sem_query.specs.Query.{QueryValue}
use Rattle.sem_query.specs.Meaning.{Arrival, rows, by_column, new_answers}
use Rattle.sem_query.specs.Domains.{RowKeeps, RowsKeep}
use Rattle.sem_laws.proofs.Keeping.{combination-keeps, arrived-keeps}
use Rattle.sem_query.specs.Tuples.{sorted, new_tuples}
use Rattle.sem_query.specs.declared.plan.PartPlan.{PartPlan}
use Rattle.sem_query.specs.Plan.{stream_at}
use Rattle.sem_laws.proofs.Queries.{IsQuery}
use Rattle.sem_query.specs.Boxes.{box_size}
use Rattle.sem_query.specs.Combinations.{Choice, choice, cell_choice, choices, Reading}
use Rattle.sem_query.specs.Admission.{admits}
use Rattle.sem_query.specs.Cells.{content, rows_of_cell, cell_of, upto, row_place, printed}
use Rattle.sem_query.specs.Future.{waiting}
use Rattle.sem_query.specs.Serving.{Serves, IsServing}
use Rattle.sem_laws.proofs.ServedCells.{StandsIn, stands_itself, linked_over, key_below, up, down}
use Rattle.sem_laws.proofs.ServedCounts.{split}

nat_same : (a : ℕ) → nat_eq a a ≡ true
nat_same a = grind arith

module _ (q : QueryValue) (part : PartPlan) (serves : Serves q part)
    (h : List Arrival) (r : Arrival) (read : Reading)
    (stands : (place i : ℕ) → place < length q.from → i < (stream_at part place).size
    → read part place i ≡ cell_of q h part place i)
    (full : (place stream : ℕ) → place < length q.from → slice_index_or q.from place 0 ≡ stream → (r.stream == stream) ≡ false
    → (stream_at part place).size ≡ box_size (stream_at part place).dims.items) where
  abbrev one_row : List ℤ → Choice
  one_row r = record { values = by_column r; times = 1 }

  abbrev rows_at : ℕ → List (List ℤ) → List Choice
  rows_at n xs =
      map (λ r. let c : Choice = record { values = by_column r; times = 1 } in c) (filter (λ row. admits q part n (by_column row)) xs)

  abbrev cells_at : ℕ → List Choice
  cells_at n = flat_map (λ i. cell_choice q part n i (read part n i)) (upto (λ i. i) (stream_at part n).size)

  abbrev R : ℕ → View → View → Type 0
  R = StandsIn q part

  itself : (n : ℕ) (A : List Choice) → Partnered R n A A
  itself n A c k l = (c, k, l, stands_itself q part n c.values c.values (λ a e w. refl))

  own : (n : ℕ) (b : Bool) → map one_row (cond b (r.values ∷ []) []) ≡ cond b (choice (by_column r.values) 1) []
  own n true = refl
  own n false = refl

  module _ (n stream : ℕ) (at : n < length q.from) (is : slice_index_or q.from n 0 ≡ stream) (other : (r.stream == stream) ≡ false) where
    here_size : (stream_at part n).size ≡ box_size (stream_at part n).dims.items
    here_size = full n stream at is other

    abbrev in_cell : ℕ → List (List ℤ)
    in_cell i = rows_of_cell q part n i (rows h stream)

    read_is : (i : ℕ) → i < (stream_at part n).size → read part n i ≡ content (stream_at part n).kind (in_cell i)
    read_is i l = stands n i at l ∙ ap (λ (st : ℕ). content (stream_at part n).kind (rows_of_cell q part n i (rows h st))) is

    rows_up : Partnered R n (rows_at n (rows h stream)) (cells_at n)
    rows_up c k l =
        let m = Has-map_from one_row (filter (λ row. admits q part n (by_column row)) (rows h stream)) c k in
        let x : List ℤ = m.0 in
        let t : admits q part n (by_column x) ≡ true
        = filter-passes (λ row. admits q part n (by_column row)) (rows h stream) x m.1 in
        let i : ℕ = row_place (stream_at part n).dims.items (by_column x) in
        let b : i < (stream_at part n).size
        = subst (λ s. i < s) (sym here_size) (key_below q part serves n at (by_column x) t) in
        let y : Has (in_cell i) x
        = Has-filter (λ row. admits q part n (by_column row) && nat_eq (row_place (stream_at part n).dims.items (by_column row)) i) (and-both _ _ t (nat_same i)) (Has-filter_from (λ row. admits q part n (by_column row)) (rows h stream) x m.1) in
        let o = up q part serves n at (stream_at part n).kind refl (in_cell i) x y t in
        let z : Has (cell_choice q part n i (read part n i)) o.0
        = subst (λ e. Has (cell_choice q part n i e) o.0) (sym (read_is i b)) o.1 in
        (o.0, has-flat_map (λ i. cell_choice q part n i (read part n i)) (upto (λ i. i) (stream_at part n).size) i o.0 (has-upto _ i b) z, o.2, subst (λ (v : View). R n v o.0.values) (ap (λ (c : Choice). c.values) m.2) o.3)

    rows_down : Partnered R n (cells_at n) (rows_at n (rows h stream))
    rows_down d k l =
        let m = flat_map-from (λ i. cell_choice q part n i (read part n i)) (upto (λ i. i) (stream_at part n).size) d k in
        let i : ℕ = m.0 in
        let b : i < (stream_at part n).size = upto-below _ i m.1 in
        let z : Has (cell_choice q part n i (content (stream_at part n).kind (in_cell i))) d
        = subst (λ e. Has (cell_choice q part n i e) d) (read_is i b) m.2 in
        let t : (x : List ℤ) → Has (in_cell i) x → (admits q part n (by_column x) && nat_eq (row_place (stream_at part n).dims.items (by_column x)) i) ≡ true
        = λ x y. filter-passes (λ row. admits q part n (by_column row) && nat_eq (row_place (stream_at part n).dims.items (by_column row)) i) (rows h stream) x y in
        let o = down q part serves n at (stream_at part n).kind refl i (in_cell i)
        (λ x y. (and-left _ _ (t x y), nat_true _ _ (and-right (admits q part n (by_column x)) _ (t x y)))) d z in
        let x : List ℤ = o.0 in
        let y : Has (rows h stream) x
        = Has-filter_from (λ row. admits q part n (by_column row) && nat_eq (row_place (stream_at part n).dims.items (by_column row)) i) (rows h stream) x o.1 in
        (one_row x, Has-map one_row (Has-filter (λ row. admits q part n (by_column row)) (and-left _ _ (t x o.1)) y), omega arith, stands_itself q part n d.values (by_column x) o.2)

  up_at : (n stream : ℕ) → n < length q.from → slice_index_or q.from n 0 ≡ stream → (b : Bool) → (r.stream == stream) ≡ b
      → Partnered R n (rows_at n (cond b (r.values ∷ []) (rows h stream))) (cond b (cond (admits q part n (by_column r.values)) (choice (by_column r.values) 1) []) (cells_at n))
  up_at n stream l e true f =
      subst (λ B. Partnered R n (rows_at n (r.values ∷ [])) B) (own n (admits q part n (by_column r.values))) (itself n (rows_at n (r.values ∷ [])))
  up_at n stream l e false f = rows_up n stream l e f

  down_at : (n stream : ℕ) → n < length q.from → slice_index_or q.from n 0 ≡ stream → (b : Bool) → (r.stream == stream) ≡ b
      → Partnered R n (cond b (cond (admits q part n (by_column r.values)) (choice (by_column r.values) 1) []) (cells_at n)) (rows_at n (cond b (r.values ∷ []) (rows h stream)))
  down_at n stream l e true f =
      subst (λ B. Partnered R n B (rows_at n (r.values ∷ []))) (own n (admits q part n (by_column r.values))) (itself n (rows_at n (r.values ∷ [])))
  down_at n stream l e false f = rows_down n stream l e f

  all_up : (n : ℕ) (from : List ℕ) → IsTail q.from n from
      → AllPartnered R n (once_each (passing (λ n row. admits q part n (by_column row)) n (map (arrived h r) from))) (choices q part read r n from)
  all_up n [] t = tt
  all_up n (stream ∷ from) t =
      let o = t 0 n (omega arith) (omega arith) in
      (up_at n stream o.0 o.1 (r.stream == stream) refl, all_up (suc n) from (λ i m l e. t (suc i) m (omega (arith, l)) (omega (arith, e))))

  all_down : (n : ℕ) (from : List ℕ) → IsTail q.from n from
      → AllPartnered R n (choices q part read r n from) (once_each (passing (λ n row. admits q part n (by_column row)) n (map (arrived h r) from)))
  all_down n [] t = tt
  all_down n (stream ∷ from) t =
      let o = t 0 n (omega arith) (omega arith) in
      (down_at n stream o.0 o.1 (r.stream == stream) refl, all_down (suc n) from (λ i m l e. t (suc i) m (omega (arith, l)) (omega (arith, e))))

  whole : IsTail q.from 0 q.from
  whole i m l e =
      let f : i ≡ m = omega (arith, e) in subst (λ k. (k < length q.from) × (slice_index_or q.from k 0 ≡ slice_index_or q.from i 0)) f (l, refl)

  weights_up : (z : List ℤ) → 0 < W (once_each (admitted q part (map (arrived h r) q.from))) (linked_gives q part z)
      → 0 < W (choices q part read r 0 q.from) (linked_gives q part z)
  weights_up z =
      exchanged R 0 _ _ (linked_gives q part z) (linked_gives q part z) (all_up 0 q.from whole) (linked_over q part serves z)

  weights_down : (z : List ℤ) → 0 < W (choices q part read r 0 q.from) (linked_gives q part z)
      → 0 < W (once_each (admitted q part (map (arrived h r) q.from))) (linked_gives q part z)
  weights_down z =
      exchanged R 0 _ _ (linked_gives q part z) (linked_gives q part z) (all_down 0 q.from whole) (linked_over q part serves z)

-- with DISTINCT the cells and the table tell the new answers
pub distinct_suffice : (q : QueryValue) (plan : List PartPlan) (is : IsServing q plan) (well : IsQuery q) → q.distinct ≡ true
    → (h : List Arrival) (r : Arrival) → RowsKeep q h → RowKeeps q r → (read : Reading) → Stands q plan h read → Once r.stream q.from
    → ((p : PartPlan) → Has plan p → (place stream : ℕ) → place < length q.from → slice_index_or q.from place 0 ≡ stream → (r.stream == stream) ≡ false → (stream_at p place).size ≡ box_size (stream_at p place).dims.items)
    → sorted (new_tuples (printed q h) (waiting q plan read r)) ≡ new_answers q h r
distinct_suffice q plan is well e h r keep_h keep_r read stands o full =
    distinct-suffices q h r (waiting q plan read r) more e
    (λ z. times-answers q z (h ++ r ∷ []) ∙ nested-more h r q.from (λ c. gives q z (map by_column c)) o
    ∙ (λ i. sym (times-answers q z h) i + split q plan is.once z (map (arrived h r) q.from) (length-map q.from (arrived h r)) (combination-keeps q well (arrived h r) (arrived-keeps q h r keep_h keep_r)) i))
    (λ z a. (let s = some-summand (from_rows z) plan a in
    subst (λ n. 0 < n) (sym (times-waiting q plan read r z))
    (summand-counts (from_cells z) plan s.0 s.1 (weights_up q s.0 (serves s.0 s.1) h r read (stands s.0 s.1) (full s.0 s.1) z s.2))))
    (λ z a. (let s = some-summand (from_cells z) plan (subst (λ n. 0 < n) (times-waiting q plan read r z) a) in
    summand-counts (from_rows z) plan s.0 s.1 (weights_down q s.0 (serves s.0 s.1) h r read (stands s.0 s.1) (full s.0 s.1) z s.2)))
  where
    from_rows : List ℤ → PartPlan → ℕ
    from_rows z p = W (once_each (admitted q p (map (arrived h r) q.from))) (linked_gives q p z)

    from_cells : List ℤ → PartPlan → ℕ
    from_cells z p = W (choices q p read r 0 q.from) (linked_gives q p z)

    more : List ℤ → ℕ
    more z = sums (from_rows z) plan

    serves : (p : PartPlan) → Has plan p → Serves q p
    serves p k = All-contains (Serves q) plan p is.serves (Contains-from_has plan p k)
