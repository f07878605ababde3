-- Where a plan takes each combination once, counts of tuples are sums over its parts; and without DISTINCT what waits is what a row adds.
use Rattle.std.proofs.Common.{◌≡◌, ℕ, zero, suc, ◌+◌, ◌*◌, ◌<◌, ◌⊎◌, inl, inr, List, [], ◌∷◌, ◌++◌, map, filter, length, cond, Bool, true, false, ◌&&◌, ◌==◌, refl, sym, ap, ◌∙◌, subst, arith, nat_eq, ℤ, pos, int_lt, Contains, AllPairs, slice_index_or}
use Rattle.std.specs.List.{flat_map, list_all}
use Rattle.std.specs.Ordering.{int_eq}
use Rattle.std.proofs.lemmas.List.{length-map}
use Rattle.std.proofs.lemmas.List.Elements.{All-contains}
use Rattle.sem_query.specs.declared.atom.Attr.{Attr}
use Rattle.sem_query.specs.declared.cell.Cell.{Cell}
use Rattle.sem_query.specs.declared.atom.Op.{Op}
use Rattle.sem_query.specs.declared.plan.Dim.{Dim}
use Rattle.sem_query.specs.declared.plan.Kind.{Kind}
use Rattle.sem_query.specs.declared.plan.PartPlan.{PartPlan}
use Rattle.sem_query.specs.Query.{QueryValue}
use Rattle.sem_query.specs.Assignment.{Assignment, compares, holds, projected, KeepsDomains}
use Rattle.sem_query.specs.Domains.{RowKeeps, RowsKeep}
use Rattle.sem_query.specs.Meaning.{Arrival, rows, product, by_column, joined, at_place, answers, new_answers}
use Rattle.sem_query.specs.Tuples.{is_same, sorted}
use Rattle.sem_query.specs.Boxes.{box_size}
use Rattle.sem_query.specs.Plan.{stream_at}
use Rattle.sem_query.specs.Admission.{admits}
use Rattle.sem_query.specs.Combinations.{Choice, choice, linked, row_of_cell, cell_choice, choices, Reading}
use Rattle.sem_query.specs.Cells.{content, rows_of_cell, cell_of, upto, row_place}
use Rattle.sem_query.specs.Future.{waiting}
use Rattle.sem_query.proofs.Has.{Has, first, later, Has-from_contains, Contains-from_has, same_map}
use Rattle.sem_laws.proofs.Sums.{sums, sums_same, sums_same_in, sums_none, sums_map, sums_flat_map, sums_times, sums_bits, sum_to_same, is, grouped, nested, nested_same_in, nested_parts, nested_passing, passes, passing, bit, bit-and}
use Rattle.sem_laws.proofs.Weights.{View, W, W-rows, Alike, AllAlike, Agrees, Respects, W_alike}
use Rattle.sem_laws.proofs.Tests.{and-left, and-right, and-both, true_or_false, not_both, false_if, filter-passes}
use Rattle.sem_laws.proofs.Queries.{IsQuery}
use Rattle.sem_laws.proofs.Admission.{passes_at, passes_if, fits}
use Rattle.sem_laws.proofs.OnePartFits.{has_cases}
use Rattle.sem_laws.proofs.RowsAndCells.{sums_upto}
use Rattle.sem_laws.proofs.Counts.{times, gives, times-answers, arrived, Once, nested-more, linked_gives, once_each, admitted}
use Rattle.sem_laws.proofs.CountsGrow.{IsTail, Stands, times-waiting}
use Rattle.sem_laws.proofs.NewAnswers.{is_new, times-new-plain}
use Rattle.sem_laws.proofs.Keeping.{combination-keeps, arrived-keeps}
use Rattle.sem_query.specs.Serving.{Takes, IsKept, IsLeastKept, IsGreatestKept, CanBeAsked, Serves, TakesOnce, IsServing}
use Rattle.sem_laws.proofs.ServedCells.{IsTold, by_value, by_least, by_greatest, Agree, agrees, key_below}

passes_views : (t : ℕ → (ℕ → ℤ) → Bool) (n : ℕ) (c : List (List ℤ))
    → passes t n (map by_column c) ≡ passes (λ n row. t n (by_column row)) n c
passes_views t n [] = refl
passes_views t n (x ∷ c) = ap (λ b. t n (by_column x) && b) (passes_views t (suc n) c)

-- a combination is taken where each of its rows is admitted and the links hold
pub all_admitted : (q : QueryValue) (part : PartPlan) (vs : List View) → length vs ≡ length q.from → fits q part vs ≡ true → Takes q part vs
all_admitted q part vs whole h = record {
  each = λ place l. passes_at (admits q part) 0 vs place place (and-left _ (linked part (joined vs)) h) (omega (arith, l, whole)) (omega arith);
  links = and-right (passes (admits q part) 0 vs) _ h;
}

pub taken_fits : (q : QueryValue) (part : PartPlan) (vs : List View) → length vs ≡ length q.from → Takes q part vs → fits q part vs ≡ true
taken_fits q part vs whole a =
    and-both (passes (admits q part) 0 vs) (linked part (joined vs))
    (passes_if (admits q part) 0 vs (λ i m l e. let same : i ≡ m = omega (arith, e) in subst (λ n. admits q part n (at_place vs i) ≡ true) same (a.each i (omega (arith, l, whole)))))
    a.links

head_apart : {A : Type 0} (P : A → A → Type 0) (x : A) (xs : List A) → AllPairs P (x ∷ xs) → (y : A) → Has xs y → P x y
head_apart {A} P x xs h y m =
    let c : Contains xs y = Contains-from_has xs y m in
    let l : P x (slice_index_or xs c.0 y) = h 0 (suc c.0) y (omega arith) (omega arith) in
    subst (P x) c.2 l

rest_apart : {A : Type 0} (P : A → A → Type 0) (x : A) (xs : List A) → AllPairs P (x ∷ xs) → AllPairs P xs
rest_apart P x xs h = λ i j d a b. h (suc i) (suc j) d (omega arith) (omega arith)

-- a test that holds of one member, and of no two, holds once
one_of : (t : PartPlan → Bool) (plan : List PartPlan) → AllPairs (λ p r. t p ≡ true → t r ≡ true → ⊥) plan → (p : PartPlan) → Has plan p → t p ≡ true
    → sums (λ p. bit (t p)) plan ≡ 1
unfolding sums
one_of t [] a p h e = elim h [ ]
one_of t (r ∷ plan) a p h e =
    elim (has_cases r p plan h) [
      | inl f ↦ (
          let own : t r ≡ true = subst (λ p. t p ≡ true) (sym f) e in
          let here : bit (t r) ≡ 1 = ap bit own in
          let rest : sums (λ p. bit (t p)) plan ≡ 0 = sums_none t plan (λ o k. false_if (t o) (λ i. head_apart (λ p r. t p ≡ true → t r ≡ true → ⊥) r plan a o k own i)) in
          omega (arith, here, rest))
      | inr k ↦ (
          let here : bit (t r) ≡ 0 = ap bit (false_if (t r) (λ i. head_apart (λ p r. t p ≡ true → t r ≡ true → ⊥) r plan a p k i e)) in
          let rest : sums (λ p. bit (t p)) plan ≡ 1 = one_of t plan (rest_apart (λ p r. t p ≡ true → t r ≡ true → ⊥) r plan a) p k e in
          omega (arith, here, rest))
    ]

module _ (q : QueryValue) (plan : List PartPlan) (once : TakesOnce q plan) where
  pub one_takes : (vs : List View) → length vs ≡ length q.from → KeepsDomains q (joined vs) → bit (holds q (joined vs)) ≡ sums (λ p. bit (fits q p vs)) plan
  one_takes vs whole keeps = by (true_or_false (holds q (joined vs)))
    where
      by : (holds q (joined vs) ≡ true) ⊎ (holds q (joined vs) ≡ false) → bit (holds q (joined vs)) ≡ sums (λ p. bit (fits q p vs)) plan
      by (inl h) =
          let o = once.each vs whole keeps h in
          ap bit h ∙ sym (one_of (λ p. fits q p vs) plan
          (λ i j d a b e f. once.apart i j d a b vs whole keeps (all_admitted q _ vs whole e) (all_admitted q _ vs whole f))
          o.0 (Has-from_contains plan o.0 o.1) (taken_fits q o.0 vs whole o.2))
      by (inr h) =
          ap bit h ∙ sym (sums_none (λ p. fits q p vs) plan (λ p k. false_if (fits q p vs) (λ f.
          not_both (holds q (joined vs)) (once.no_other p (Contains-from_has plan p k) vs whole keeps (all_admitted q p vs whole f)) h)))

  by_parts : (z : List ℤ) (vs : List View) → length vs ≡ length q.from → KeepsDomains q (joined vs)
      → gives q z vs ≡ sums (λ p. bit (passes (admits q p) 0 vs) * linked_gives q p z vs) plan
  by_parts z vs whole keeps =
      let m : ℕ = bit (is_same z (projected q (joined vs))) in
      ap (λ y. y * m) (one_takes vs whole keeps)
      ∙ swapped (sums (λ p. bit (fits q p vs)) plan) m
      ∙ sym (sums_times m (λ p. bit (fits q p vs)) plan)
      ∙ sums_same _ _ plan (λ p. ap (λ y. m * y) (bit-and (passes (admits q p) 0 vs) (linked p (joined vs))) ∙ turned m (bit (passes (admits q p) 0 vs)) (bit (linked p (joined vs))))
    where
      swapped : (a b : ℕ) → a * b ≡ b * a
      swapped a b = omega arith

      turned : (m a b : ℕ) → m * (a * b) ≡ a * (b * m)
      turned m a b = omega arith

  -- the tuple's count over any lists of rows that keep to the domains, one per stream of FROM, is a sum over parts and admitted rows
  pub split : (z : List ℤ) (ls : List (List (List ℤ))) → length ls ≡ length q.from
      → ((c : List (List ℤ)) → Has (product ls) c → KeepsDomains q (joined (map by_column c)))
      → nested ls (λ c. gives q z (map by_column c)) ≡ sums (λ p. W (once_each (admitted q p ls)) (linked_gives q p z)) plan
  split z ls whole keep =
      nested_same_in ls _ (λ c. sums (λ p. bit (passes (λ n row. admits q p n (by_column row)) 0 c) * linked_gives q p z (map by_column c)) plan)
      (λ c i e. by_parts z (map by_column c) (length-map c by_column ∙ e ∙ whole) (keep c i)
      ∙ sums_same _ _ plan (λ p. ap (λ b. bit b * linked_gives q p z (map by_column c)) (passes_views (admits q p) 0 c)))
      ∙ nested_parts ls plan (λ p c. bit (passes (λ n row. admits q p n (by_column row)) 0 c) * linked_gives q p z (map by_column c))
      ∙ sums_same _ _ plan (λ p. nested_passing (λ n row. admits q p n (by_column row)) 0 ls (λ c. linked_gives q p z (map by_column c))
      ∙ W-rows (admitted q p ls) (linked_gives q p z))

filter_both : {X : Type 0} (a b : X → Bool) (xs : List X) → filter (λ x. a x && b x) xs ≡ filter b (filter a xs)
filter_both a b [] = refl
filter_both {X} a b (x ∷ xs) = by (a x) (filter_both a b xs)
  where
    by : (c : Bool) → filter (λ x. a x && b x) xs ≡ filter b (filter a xs)
        → cond (c && b x) (x ∷ filter (λ x. a x && b x) xs) (filter (λ x. a x && b x) xs) ≡ filter b (cond c (x ∷ filter a xs) (filter a xs))
    by true e = ap (λ l. cond (b x) (x ∷ l) l) e
    by false e = e

agree_itself : (q : QueryValue) (part : PartPlan) (n : ℕ) (v : View) → Agree q part n v v
agree_itself q part n v a e w = refl

all_same : {X : Type 0} (f g : X → Bool) (xs : List X) → ((x : X) → Has xs x → f x ≡ g x) → list_all f xs ≡ list_all g xs
all_same f g [] h = refl
all_same f g (x ∷ xs) h = rw (h x first, all_same f g xs (λ y k. h y (later k))) refl

-- agreeing combinations give the same at each column of which something is kept
agree_at : (q : QueryValue) (part : PartPlan) (n : ℕ) (vs ws : List View) (i : ℕ) (a : Attr)
    → Agrees (Agree q part) (agree_itself q part) n vs ws → a.stream ≡ n + i → IsTold q part a
    → at_place vs i a.column ≡ at_place ws i a.column
agree_at q part n [] [] i a h e w = refl
agree_at q part n [] (v ∷ ws) i a h e w = absurd h
agree_at q part n (v ∷ vs) [] i a h e w = absurd h
agree_at q part n (v ∷ vs) (u ∷ ws) zero a h e w = h.0 a (omega (arith, e)) w
agree_at q part n (v ∷ vs) (u ∷ ws) (suc i) a h e w = agree_at q part (suc n) vs ws i a h.1 (omega (arith, e)) w

left_told : (q : QueryValue) (part : PartPlan) (a : Attr) → IsKept q part a ⊎ IsLeastKept q part a → IsTold q part a
left_told q part a (inl i) = by_value i
left_told q part a (inr i) = by_least i

right_told : (q : QueryValue) (part : PartPlan) (a : Attr) → IsKept q part a ⊎ IsGreatestKept q part a → IsTold q part a
right_told q part a (inl i) = by_value i
right_told q part a (inr i) = by_greatest i

-- both sides of a comparison that can be asked are told
asked_told : (q : QueryValue) (part : PartPlan) (o : Op) (x y : Attr) → CanBeAsked q part o x y → IsTold q part x × IsTold q part y
asked_told q part Op.Lt x y s = (left_told q part x s.0, right_told q part y s.1)
asked_told q part Op.Le x y s = (left_told q part x s.0, right_told q part y s.1)
asked_told q part Op.Eq x y s = (by_value s.0, by_value s.1)
asked_told q part Op.Gt x y s = (by_value s.0, by_value s.1)
asked_told q part Op.Ge x y s = (by_value s.0, by_value s.1)
asked_told q part Op.Ne x y s = (by_value s.0, by_value s.1)

same_linked : (q : QueryValue) (part : PartPlan) (serves : Serves q part) (v w : Assignment) → ((a : Attr) → IsTold q part a → v a ≡ w a) → linked part v ≡ linked part w
same_linked q part serves v w h =
    let e : list_all (λ l. int_eq (v l.left) (v l.right)) part.equal.items ≡ list_all (λ l. int_eq (w l.left) (w l.right)) part.equal.items =
    all_same _ _ part.equal.items (λ l k.
    let s : IsKept q part l.left × IsKept q part l.right = serves.equal l (Contains-from_has part.equal.items l k) in
    let x : v l.left ≡ w l.left = h l.left (by_value s.0) in
    let y : v l.right ≡ w l.right = h l.right (by_value s.1) in
    rw (x, y) refl) in
    let f : list_all (λ l. int_lt (v l.left) (v l.right)) part.less.items ≡ list_all (λ l. int_lt (w l.left) (w l.right)) part.less.items =
    all_same _ _ part.less.items (λ l k.
    let s : (IsKept q part l.left ⊎ IsLeastKept q part l.left) × (IsKept q part l.right ⊎ IsGreatestKept q part l.right) = serves.less l (Contains-from_has part.less.items l k) in
    let x : v l.left ≡ w l.left = h l.left (left_told q part l.left s.0) in
    let y : v l.right ≡ w l.right = h l.right (right_told q part l.right s.1) in
    rw (x, y) refl) in
    let g : list_all (λ l. compares l.op (v l.left) (v l.right)) part.soft.items ≡ list_all (λ l. compares l.op (w l.left) (w l.right)) part.soft.items =
    all_same _ _ part.soft.items (λ l k.
    let s : IsTold q part l.left × IsTold q part l.right = asked_told q part l.op l.left l.right (serves.soft l (Contains-from_has part.soft.items l k)) in
    let x : v l.left ≡ w l.left = h l.left s.0 in
    let y : v l.right ≡ w l.right = h l.right s.1 in
    rw (x, y) refl) in
    rw (e, f, g) refl

respects : (q : QueryValue) (part : PartPlan) (serves : Serves q part) (z : List ℤ) → Respects (Agree q part) (agree_itself q part) 0 (linked_gives q part z)
respects q part serves z vs ws h =
    let g : (a : Attr) → IsTold q part a → joined vs a ≡ joined ws a = λ a w. agree_at q part 0 vs ws a.stream a h (omega arith) w in
    let e : linked part (joined vs) ≡ linked part (joined ws) = same_linked q part serves (joined vs) (joined ws) g in
    let f : projected q (joined vs) ≡ projected q (joined ws) = same_map (joined vs) (joined ws) q.select (λ a k. g a (by_value (serves.selected a (Contains-from_has q.select a k)))) in
    rw (e, f) refl

module _ (q : QueryValue) (part : PartPlan) (serves : Serves q part) (place : ℕ) (at : place < length q.from) (counts : (stream_at part place).kind ≡ Kind.Count) where
  abbrev dims : List Dim
  dims = (stream_at part place).dims.items

  -- an admitted row agrees with its cell
  counted_agree : (v : View) → admits q part place v ≡ true → Agree q part place v (row_of_cell q part place (row_place dims v) (pos 0))
  counted_agree v t =
      agrees q part serves place at v (pos 0) t
      (λ m f. (let g : Kind.Count ≡ Kind.Least m = sym counts ∙ f in absurd cc)) (λ m f. (let g : Kind.Count ≡ Kind.Greatest m = sym counts ∙ f in absurd cc))

  module _ (xs : List (List ℤ)) (read : ℕ → Cell) (stands : (i : ℕ) → i < box_size dims → read i ≡ content (stream_at part place).kind (rows_of_cell q part place i xs)) where
    abbrev key : List ℤ → ℕ
    key row = row_place dims (by_column row)

    abbrev taken : List (List ℤ)
    taken = filter (λ row. admits q part place (by_column row)) xs

    counted : (g : View → ℕ) (i : ℕ) (ys : List (List ℤ))
        → sums (λ p. p.times * g p.values) (cell_choice q part place i (content Kind.Count ys)) ≡ length ys * g (row_of_cell q part place i (pos 0))
    unfolding sums
    counted g i [] = omega arith
    counted g i (y ∷ ys) = omega arith

    one_cell : (g : View → ℕ) (i : ℕ) → i < box_size dims
        → sums (λ p. p.times * g p.values) (cell_choice q part place i (read i)) ≡ sums (λ x. is (key x) i) taken * g (row_of_cell q part place i (pos 0))
    one_cell g i l =
        let F : Cell → ℕ = λ c. sums (λ p. p.times * g p.values) (cell_choice q part place i c) in
        let ys : List (List ℤ) = filter (λ row. nat_eq (key row) i) taken in
        ap F (stands i l) ∙ ap (λ k. F (content k (rows_of_cell q part place i xs))) counts
        ∙ ap (λ l. F (content Kind.Count l)) (filter_both (λ row. admits q part place (by_column row)) (λ row. nat_eq (key row) i) xs)
        ∙ counted g i ys
        ∙ ap (λ n. n * g (row_of_cell q part place i (pos 0))) (sym (sums_bits (λ row. nat_eq (key row) i) taken))

    rows_are_cells : Alike (Agree q part) (agree_itself q part) place (map (λ r. let c : Choice = record { values = by_column r; times = 1 } in c) taken) (flat_map (λ i. cell_choice q part place i (read i)) (upto (λ i. i) (box_size dims)))
    rows_are_cells g respects =
        let cell : ℕ → View = λ i. row_of_cell q part place i (pos 0) in
        sums_map (λ p. p.times * g p.values) (λ r. let c : Choice = record { values = by_column r; times = 1 } in c) taken
        ∙ sums_same_in (λ r. 1 * g (by_column r)) (λ x. g (cell (key x))) taken (λ x h.
        let t : admits q part place (by_column x) ≡ true = filter-passes (λ row. admits q part place (by_column row)) xs x h in
        omega (arith, respects (by_column x) (cell (key x)) (counted_agree (by_column x) t)))
        ∙ grouped key (λ i. g (cell i)) (box_size dims) taken (λ x h. key_below q part serves place at (by_column x) (filter-passes (λ row. admits q part place (by_column row)) xs x h))
        ∙ sum_to_same _ _ (box_size dims) (λ i l. sym (one_cell g i l))
        ∙ sym (sums_upto (λ i. sums (λ p. p.times * g p.values) (cell_choice q part place i (read i))) (box_size dims))
        ∙ sym (sums_flat_map (λ p. p.times * g p.values) (λ i. cell_choice q part place i (read i)) (upto (λ i. i) (box_size dims)))

module _ (q : QueryValue) (part : PartPlan) (serves : Serves q part) (plain : q.distinct ≡ false)
    (h : List Arrival) (r : Arrival) (read : Reading)
    (stands : (place i : ℕ) → place < length q.from → i < (stream_at part place).size
    → read part place i ≡ cell_of q h part place i)
    (full : (place stream : ℕ) → place < length q.from → slice_index_or q.from place 0 ≡ stream → (r.stream == stream) ≡ false
    → (stream_at part place).size ≡ box_size (stream_at part place).dims.items) where
  abbrev rows_at : ℕ → List (List ℤ) → List Choice
  rows_at n xs =
      map (λ r. let c : Choice = record { values = by_column r; times = 1 } in c) (filter (λ row. admits q part n (by_column row)) xs)

  own : (n : ℕ)
      → Alike (Agree q part) (agree_itself q part) n (rows_at n (r.values ∷ [])) (cond (admits q part n (by_column r.values)) (choice (by_column r.values) 1) [])
  own n = by (admits q part n (by_column r.values))
    where
      by : (b : Bool)
          → Alike (Agree q part) (agree_itself q part) n (map (λ r. let c : Choice = record { values = by_column r; times = 1 } in c) (cond b (r.values ∷ []) [])) (cond b (choice (by_column r.values) 1) [])
      by true g k = refl
      by false g k = refl

  alike_at : (n stream : ℕ) → n < length q.from → slice_index_or q.from n 0 ≡ stream → (b : Bool) → (r.stream == stream) ≡ b
      → Alike (Agree q part) (agree_itself q part) n (rows_at n (cond b (r.values ∷ []) (rows h stream)))
      (cond b (cond (admits q part n (by_column r.values)) (choice (by_column r.values) 1) []) (flat_map (λ i. cell_choice q part n i (read part n i)) (upto (λ i. i) (stream_at part n).size)))
  alike_at n stream l e true f = own n
  alike_at n stream l e false f =
      let s : (stream_at part n).size ≡ box_size (stream_at part n).dims.items = full n stream l e f in
      let a : Alike (Agree q part) (agree_itself q part) n (rows_at n (rows h stream)) (flat_map (λ i. cell_choice q part n i (read part n i)) (upto (λ i. i) (box_size (stream_at part n).dims.items))) =
      rows_are_cells q part serves n l ((serves.keeps.kind n l).1 plain) (rows h stream) (read part n)
      (λ i b. stands n i l (subst (λ k. i < k) (sym s) b) ∙ ap (λ (st : ℕ). content (stream_at part n).kind (rows_of_cell q part n i (rows h st))) e) in
      subst (λ k. Alike (Agree q part) (agree_itself q part) n (rows_at n (rows h stream)) (flat_map (λ i. cell_choice q part n i (read part n i)) (upto (λ i. i) k))) (sym s) a

  all_alike : (n : ℕ) (from : List ℕ) → IsTail q.from n from
      → AllAlike (Agree q part) (agree_itself q part) n (once_each (passing (λ n row. admits q part n (by_column row)) n (map (arrived h r) from))) (choices q part read r n from)
  all_alike n [] t = tt
  all_alike n (stream ∷ from) t =
      let here = t 0 n (omega arith) (omega arith) in
      (alike_at n stream here.0 here.1 (r.stream == stream) refl, all_alike (suc n) from (λ i m l e. t (suc i) m (omega (arith, l)) (omega (arith, e))))

  same_weights : (z : List ℤ)
      → W (once_each (admitted q part (map (arrived h r) q.from))) (linked_gives q part z) ≡ W (choices q part read r 0 q.from) (linked_gives q part z)
  same_weights z = W_alike (Agree q part) (agree_itself q part) 0 _ _ (linked_gives q part z)
      (all_alike 0 q.from (λ i m l e. let f : i ≡ m = omega (arith, e) in subst (λ k. (k < length q.from) × (slice_index_or q.from k 0 ≡ slice_index_or q.from i 0)) f (l, refl)))
      (respects q part serves z)

-- a row of a stream of FROM adds to the count of each tuple what waits
counts_grow : (q : QueryValue) (plan : List PartPlan) (is : IsServing q plan) (well : IsQuery q) → q.distinct ≡ false
    → (h : List Arrival) (r : Arrival) → RowsKeep q h → RowKeeps q r → (read : Reading) → Stands q plan h read → Once r.stream q.from
    → ((p : PartPlan) → Has plan p → (place stream : ℕ) → place < length q.from → slice_index_or q.from place 0 ≡ stream → (r.stream == stream) ≡ false → (stream_at p place).size ≡ box_size (stream_at p place).dims.items)
    → (z : List ℤ) → times z (answers q (h ++ r ∷ [])) ≡ times z (answers q h) + times z (waiting q plan read r)
counts_grow q plan is well plain h r keep_h keep_r read stands once full z =
    times-answers q z (h ++ r ∷ []) ∙ nested-more h r q.from (λ c. gives q z (map by_column c)) once
    ∙ (λ i. sym (times-answers q z h) i + added i)
  where
    added : nested (map (arrived h r) q.from) (λ c. gives q z (map by_column c)) ≡ times z (waiting q plan read r)
    added =
        split q plan is.once z (map (arrived h r) q.from) (length-map q.from (arrived h r)) (combination-keeps q well (arrived h r) (arrived-keeps q h r keep_h keep_r))
        ∙ sums_same_in _ _ plan (λ p k. same_weights q p (All-contains (Serves q) plan p is.serves (Contains-from_has plan p k)) plain h r read (stands p k) (full p k) z)
        ∙ sym (times-waiting q plan read r z)

pub counts_suffice : (q : QueryValue) (plan : List PartPlan) (is : IsServing q plan) (well : IsQuery q) → q.distinct ≡ false
    → (h : List Arrival) (r : Arrival) → RowsKeep q h → RowKeeps q r → (read : Reading) → Stands q plan h read → Once r.stream q.from
    → ((p : PartPlan) → Has plan p → (place stream : ℕ) → place < length q.from → slice_index_or q.from place 0 ≡ stream → (r.stream == stream) ≡ false → (stream_at p place).size ≡ box_size (stream_at p place).dims.items)
    → sorted (waiting q plan read r) ≡ new_answers q h r
counts_suffice q plan is well plain h r keep_h keep_r read stands o full =
    is_new q h r (waiting q plan read r) (λ z. omega (arith, times-new-plain q h r z plain, counts_grow q plan is well plain h r keep_h keep_r read stands o full z))
