-- Whatever the cells hold, the tuples that wait lie in the boxes of the parts.
use Rattle.std.proofs.Common.{◌≡◌, ℕ, zero, suc, ◌+◌, ◌*◌, ◌<◌, ◌/◌, ◌%◌, inl, inr, List, [], ◌∷◌, map, length, cond, Bool, true, false, ◌==◌, nat_eq, refl, sym, ap, subst, arith, ℤ, pos, ◌+ℤ◌, Contains, ◌&&◌}
use Rattle.std.proofs.lemmas.Nat.{mod_below}
use Rattle.std.proofs.Math.Nat.{div-lt_iff_lt-mul}
use Rattle.std.proofs.lemmas.List.Elements.{All-contains}
use Rattle.std.specs.List.{flat_map}
use Rattle.sem_query.proofs.Has.{Has, Has-from_contains, Contains-from_has, Has-map_from}
use Rattle.sem_laws.proofs.Weights.{View, values_of}
use Rattle.sem_laws.proofs.Tests.{and-right, all_at, not_both}
use Rattle.sem_laws.proofs.OnePartFits.{has_cases}
use Rattle.sem_laws.proofs.Places.{range_low, range_high}
use Rattle.sem_laws.proofs.Extremes.{flat_map-from, upto-below}
use Rattle.sem_laws.proofs.TableRoom.{values_in, tuple-in, value-in, first_tied-is, has-from}
use Rattle.sem_query.proofs.BoxLaws.{positive}
use Rattle.sem_query.specs.declared.atom.Attr.{Attr}
use Rattle.sem_query.specs.Query.{QueryValue}
use Rattle.sem_query.specs.Parts.{pairs}
use Rattle.sem_query.specs.declared.plan.Dim.{Dim}
use Rattle.sem_query.specs.declared.cell.Cell.{Cell}
use Rattle.sem_query.specs.Meaning.{Arrival, product, by_column, at_place, joined}
use Rattle.sem_query.specs.Assignment.{projected}
use Rattle.sem_query.specs.declared.plan.PartPlan.{PartPlan}
use Rattle.sem_query.specs.Plan.{stream_at, dims_at}
use Rattle.sem_query.specs.Serving.{IsKept, Serves}
use Rattle.sem_laws.proofs.Queries.{IsQuery, query_within}
use Rattle.sem_query.specs.Boxes.{dim_size, box_size, values_at}
use Rattle.sem_query.specs.Combinations.{Choice, choice, linked, is_tied, looked_up, row_of_cell, cell_choice, choices, times_of, Reading}
use Rattle.sem_query.specs.Admission.{alone, admits, keeps_signs, keeps_local, in_range}
use Rattle.sem_query.specs.Cells.{upto}
use Rattle.std.specs.Prelude.{replicate}
use Rattle.sem_laws.proofs.Waiting.{tuples, waiting-tuples}
use Rattle.sem_query.specs.Future.{waiting}
use Rattle.sem_query.specs.Ranges.{first_tied, range_of, all_tuples}
use Rattle.sem_laws.specs.Rooms.{WaitingFits}

digit-below : (i n v : ℕ) → 0 < v → i < n * v → i / v < n
digit-below i n v p h = (div-lt_iff_lt-mul p).1 h

-- a column that some dim is tied to has, in every cell of the box, a value in its range
looked-in : (are_tied : Attr → Attr → Bool) (dims : List Dim) (i : ℕ) (z : ℤ) (a : Attr) (d : Dim) → Has dims d
    → are_tied d.attr a ≡ true → i < box_size dims
    → Has (values_in (first_tied are_tied dims a)) (looked_up are_tied dims (values_at dims i) z a)
looked-in are_tied [] i z a d k t l = elim k [ ]
looked-in are_tied (o ∷ dims) i z a d k t l =
    by (are_tied o.attr a) refl (λ h. looked-in are_tied dims (i % box_size dims) z a d h t (mod_below i (box_size dims) (positive (dim_size o) (box_size dims) i l)))
  where
    x : ℤ
    x = o.lo +ℤ pos (i / box_size dims)

    by : (b : Bool) → are_tied o.attr a ≡ b
        → (Has dims d → Has (values_in (first_tied are_tied dims a)) (looked_up are_tied dims (values_at dims (i % box_size dims)) z a))
        → Has (values_in (cond b o (first_tied are_tied dims a))) (cond b (o.lo +ℤ pos (i / box_size dims)) (looked_up are_tied dims (values_at dims (i % box_size dims)) z a))
    by true e f =
        has-from o.lo (dim_size o) (i / box_size dims) (digit-below i (dim_size o) (box_size dims) (positive (dim_size o) (box_size dims) i l) l)
    by false e f = f (elim (has_cases o d dims k) [
      | inl g ↦ absurd (not_both (are_tied o.attr a) (subst (λ y. are_tied y.attr a ≡ true) (sym g) t) e)
      | inr m ↦ m
    ])

module _ (q : QueryValue) (plan : List PartPlan) (well : IsQuery q) (p : PartPlan) (k : Has plan p) (serves : Serves q p) (read : Reading) (r : Arrival) where
  -- the selected columns of a place lie in their ranges
  abbrev Lies : ℕ → View → Type 0
  Lies n v = (a : Attr) → a.stream ≡ n → Contains q.select a → Has (values_in (range_of q p a)) (v a.column)

  row_lies : (n : ℕ) → n < length q.from → (v : View) → admits q p n v ≡ true → Lies n v
  row_lies n l v t a e c =
      let dims : List Dim = dims_at p n in
      let o : IsKept q p a = serves.selected a c in
      let among : Has dims o.dim = subst (λ m. Has (dims_at p m) o.dim) e (Has-from_contains (dims_at p a.stream) o.dim o.among) in
      let f = first_tied-is (is_tied q p) dims a o.dim among o.tied in
      let d : Dim = first_tied (is_tied q p) dims a in
      let g : in_range v d ≡ true
      = all_at (in_range v) dims d (and-right (keeps_signs n (alone v) (pairs q) p.signs.items && keeps_local n (alone v) p.local) _ t) f.0 in
      let s : d.attr.stream ≡ n = All-contains (λ (x : Dim). x.attr.stream ≡ n) dims d (serves.keeps.dims n l) (Contains-from_has dims d f.0) in
      let j : v d.attr.column ≡ v a.column = serves.classes n l v t d.attr a s e f.1 in
      subst (λ m. Has (values_in (first_tied (is_tied q p) (dims_at p m) a)) (v a.column)) (sym e)
      (subst (λ x. Has (values_in d) x) j (value-in d (v d.attr.column) (range_low _ d.lo d.hi g) (range_high _ d.lo d.hi g)))

  cell_lies : (n : ℕ) → n < length q.from → (i : ℕ) (z : ℤ) → i < (stream_at p n).size → Lies n (row_of_cell q p n i z)
  cell_lies n l i z b a e c =
      let dims : List Dim = dims_at p n in
      let o : IsKept q p a = serves.selected a c in
      let among : Has dims o.dim = subst (λ m. Has (dims_at p m) o.dim) e (Has-from_contains (dims_at p a.stream) o.dim o.among) in
      let same : a ≡ record { stream = n; column = a.column } = (λ j. record { stream = e j; column = a.column }) in
      let m : i < box_size dims = within (nat_eq (length q.from) 1) (box_size dims) (subst (λ w. i < w) (serves.keeps.size n l) b) in
      subst (λ (u : Attr). Has (values_in (first_tied (is_tied q p) (dims_at p u.stream) u)) (row_of_cell q p n i z a.column)) (sym same)
      (looked-in (is_tied q p) dims i z record { stream = n; column = a.column } o.dim among (subst (λ u. is_tied q p o.dim.attr u ≡ true) same o.tied) m)
    where
      within : (b : Bool) (w : ℕ) → i < cond b 0 w → i < w
      within true w h = absurd (omega (arith, h))
      within false w h = h

  one_choice : (v : View) (n : ℕ) (d : Choice) → Has (choice v n) d → v ≡ d.values
  one_choice v n d h = elim (has_cases _ d [] h) [ inl e ↦ ap (λ c. c.values) e | inr k ↦ elim k [ ] ]

  of_cell : (n : ℕ) → n < length q.from → (i : ℕ) → i < (stream_at p n).size → (c : Cell) (d : Choice)
      → Has (cell_choice q p n i c) d → Lies n d.values
  of_cell n l i b Cell.Empty d h = elim h [ ]
  of_cell n l i b (Cell.Count m) d h = subst (Lies n) (one_choice _ m d h) (cell_lies n l i (pos 0) b)
  of_cell n l i b Cell.Present d h = subst (Lies n) (one_choice _ 1 d h) (cell_lies n l i (pos 0) b)
  of_cell n l i b (Cell.Extreme z) d h = subst (Lies n) (one_choice _ 1 d h) (cell_lies n l i z b)

  of_place : (n : ℕ) → n < length q.from → (b : Bool) (d : Choice)
      → Has (cond b (cond (admits q p n (by_column r.values)) (choice (by_column r.values) 1) []) (flat_map (λ i. cell_choice q p n i (read p n i)) (upto (λ i. i) (stream_at p n).size))) d
      → Lies n d.values
  of_place n l true d h = own (admits q p n (by_column r.values)) refl h
    where
      own : (b : Bool) → admits q p n (by_column r.values) ≡ b → Has (cond b (choice (by_column r.values) 1) []) d → Lies n d.values
      own true e g = subst (Lies n) (one_choice _ 1 d g) (row_lies n l (by_column r.values) e)
      own false e g = elim g [ ]
  of_place n l false d h =
      let m = flat_map-from (λ i. cell_choice q p n i (read p n i)) (upto (λ i. i) (stream_at p n).size) d h in
      of_cell n l m.0 (upto-below _ m.0 m.1) (read p n m.0) d m.2

  all_lie : (n : ℕ) (from : List ℕ) → ((i m : ℕ) → i < length from → m ≡ n + i → m < length q.from) → (chosen : List Choice)
      → Has (product (choices q p read r n from)) chosen
      → (i m : ℕ) → i < length from → m ≡ n + i → Lies m (at_place (values_of chosen) i)
  all_lie n [] t chosen h i m l e = absurd (omega (arith, l))
  all_lie n (stream ∷ from) t chosen h i m l e =
      let o = flat_map-from (λ x. map (λ c. x ∷ c) (product (choices q p read r (suc n) from))) _ chosen h in
      let u = Has-map_from (λ c. o.0 ∷ c) (product (choices q p read r (suc n) from)) chosen o.2 in
      subst (λ (cs : List Choice). Lies m (at_place (values_of cs) i)) u.2
      (by o.0 u.0 i l e (of_place n (t 0 n (omega arith) (omega arith)) (r.stream == stream) o.0 o.1)
      (λ j b f. all_lie (suc n) from (λ i m l e. t (suc i) m (omega (arith, l)) (omega (arith, e))) u.0 u.1 j m b f))
    where
      by : (c : Choice) (cs : List Choice) (i : ℕ) → i < suc (length from) → m ≡ n + i → Lies n c.values
          → ((j : ℕ) → j < length from → m ≡ suc n + j → Lies m (at_place (values_of cs) j))
          → Lies m (at_place (values_of (c ∷ cs)) i)
      by c cs zero l e g f = let j : n ≡ m = omega (arith, e) in subst (λ m. Lies m c.values) j g
      by c cs (suc i) l e g f = f i (omega (arith, l)) (omega (arith, e))

  tuple_is : (v : Attr → ℤ) (b : Bool) (n : ℕ) (t : List ℤ) → Has (cond b (replicate n (projected q v)) []) t → projected q v ≡ t
  tuple_is v false n t h = elim h [ ]
  tuple_is v true zero t h = elim h [ ]
  tuple_is v true (suc n) t h = elim (has_cases (projected q v) t _ h) [ inl e ↦ e | inr k ↦ tuple_is v true n t k ]

  pub waits-in : (t : List ℤ) → Has (flat_map (tuples q p) (product (choices q p read r 0 q.from))) t → Has (all_tuples q plan) t
  waits-in t h =
      let m = flat_map-from (tuples q p) (product (choices q p read r 0 q.from)) t h in
      let v : Attr → ℤ = joined (values_of m.0) in
      subst (λ u. Has (all_tuples q plan) u) (tuple_is v (linked p v) (times_of m.0) t m.2)
      (tuple-in q plan p k v (λ a i. let c : Contains q.select a = Contains-from_has q.select a i in
      all_lie 0 q.from (λ i m l e. omega (arith, l, e)) m.0 m.1 a.stream a.stream (well.select a c) (omega arith) a refl c))

pub waiting-fits : WaitingFits
waiting-fits q plan within serves read r t h =
    let well : IsQuery q = query_within q within in
    let m
    = flat_map-from (λ p. flat_map (tuples q p) (product (choices q p read r 0 q.from))) plan t (subst (λ ts. Has ts t) (waiting-tuples q plan read r) (Has-from_contains (waiting q plan read r) t h)) in
    let p : PartPlan = m.0 in
    Contains-from_has (all_tuples q plan) t (waits-in q plan well p m.1 (All-contains (Serves q) plan p serves (Contains-from_has plan p m.1)) read r t m.2)
