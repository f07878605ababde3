-- A query with its domains written as comparisons answers as if rows outside the domains had not come.
use Rattle.std.proofs.Common.{◌≡◌, ◌≢◌, ℕ, zero, suc, ◌+◌, ◌<◌, ◌⊎◌, inl, inr, List, [], ◌∷◌, ◌++◌, map, filter, length, cond, not, Bool, true, false, ◌&&◌, ◌||◌, ◌==◌, refl, sym, ap, ◌∙◌, subst, arith, nat_eq, ℤ, pos, ◌+ℤ◌, ◌-ℤ◌, int_lt, slice_index_or, append-nil}
use Rattle.std.proofs.lemmas.Int.{ints}
use Rattle.std.proofs.lemmas.List.{length-map}
use Rattle.std.proofs.lemmas.List.Elements.{filter-append}
use Rattle.std.specs.List.{flat_map, list_all, list_any}
use Rattle.sem_query.proofs.Has.{Has, first, later, Has-filter_from}
use Rattle.sem_query.proofs.Domains.{each_keeps, keeps_each}
use Rattle.sem_query.specs.declared.atom.Domain.{Domain}
use Rattle.sem_query.specs.Query.{QueryValue}
use Rattle.sem_query.specs.Assignment.{Assignment, meets, holds, projected, lies_in, keeps_domains}
use Rattle.sem_query.specs.Meaning.{Arrival, rows, product, by_column, at_place, assignment_of, answers, new_answers}
use Rattle.sem_query.specs.Domains.{keeps_at, RowKeeps}
use Rattle.sem_query.specs.Tuples.{is_same, sorted, remove_one, bag_minus, distinct_tuples, new_tuples}
use Rattle.sem_laws.proofs.Order.{same-itself}
use Rattle.sem_laws.proofs.TableRoom.{product-length}
use Rattle.sem_laws.proofs.Tests.{and-left, and-right, and-both, or-cases, or-right, same_bool, all_at, all_if, any_if, nat_true}
use Rattle.sem_lower_bounds.specs.Within.{as_comparisons, written}
use Rattle.sem_lower_bounds.proofs.Formed.{IsFormed}
use Rattle.sem_lower_bounds.proofs.OneLong.{rows-first}

-- lists that are filtered
filter-same : {X : Type 0} (t u : X → Bool) (xs : List X) → ((x : X) → Has xs x → t x ≡ u x) → filter t xs ≡ filter u xs
filter-same t u [] h = refl
filter-same {X} t u (x ∷ xs) h = by (t x) (u x) (h x first) (filter-same t u xs (λ y k. h y (later k)))
  where
    by : (b c : Bool) → b ≡ c → filter t xs ≡ filter u xs → cond b (x ∷ filter t xs) (filter t xs) ≡ cond c (x ∷ filter u xs) (filter u xs)
    by true true e f = ap (λ (l : List X). x ∷ l) f
    by true false e f = absurd cc
    by false true e f = absurd cc
    by false false e f = f

filter-both : {X : Type 0} (t u : X → Bool) (xs : List X) → filter (λ x. t x && u x) xs ≡ filter t (filter u xs)
filter-both t u [] = refl
filter-both {X} t u (x ∷ xs) = by (t x) (u x) refl (filter-both t u xs)
  where
    by : (b c : Bool) → t x ≡ b → filter (λ x. t x && u x) xs ≡ filter t (filter u xs)
        → cond (b && c) (x ∷ filter (λ x. t x && u x) xs) (filter (λ x. t x && u x) xs) ≡ filter t (cond c (x ∷ filter u xs) (filter u xs))
    by true true e f = ap (λ (l : List X). x ∷ l) f ∙ sym (ap (λ b. cond b (x ∷ filter t (filter u xs)) (filter t (filter u xs))) e)
    by true false e f = f
    by false true e f = f ∙ sym (ap (λ b. cond b (x ∷ filter t (filter u xs)) (filter t (filter u xs))) e)
    by false false e f = f

filter-none : {X : Type 0} (t : X → Bool) (xs : List X) → ((x : X) → Has xs x → t x ≡ false) → filter t xs ≡ []
filter-none t [] h = refl
filter-none t (x ∷ xs) h = ap (λ b. cond b (x ∷ filter t xs) (filter t xs)) (h x first) ∙ filter-none t xs (λ y k. h y (later k))

pub filter-all : {X : Type 0} (t : X → Bool) (xs : List X) → ((x : X) → Has xs x → t x ≡ true) → filter t xs ≡ xs
filter-all t [] h = refl
filter-all {X} t (x ∷ xs) h = ap (λ b. cond b (x ∷ filter t xs) (filter t xs)) (h x first) ∙ ap (λ (l : List X). x ∷ l) (filter-all t xs (λ y k. h y (later k)))

all-append : {X : Type 0} (t : X → Bool) (xs ys : List X) → list_all t (xs ++ ys) ≡ (list_all t xs && list_all t ys)
all-append t [] ys = refl
all-append t (x ∷ xs) ys = by (t x) (all-append t xs ys)
  where
    by : (b : Bool) → list_all t (xs ++ ys) ≡ (list_all t xs && list_all t ys) → (b && list_all t (xs ++ ys)) ≡ ((b && list_all t xs) && list_all t ys)
    by true e = e
    by false e = refl

-- nothing is new where nothing came
minus-itself : (ts : List (List ℤ)) → bag_minus ts ts ≡ []
minus-itself [] = refl
minus-itself (t ∷ ts) = ap (λ (us : List (List ℤ)). bag_minus us ts) (ap (λ b. cond b ts (t ∷ remove_one t ts)) (same-itself t)) ∙ minus-itself ts

once-from : (ts : List (List ℤ)) (z : List ℤ) → Has (distinct_tuples ts) z → Has ts z
once-from [] z h = elim h [ ]
once-from (t ∷ ts) z first = first
once-from (t ∷ ts) z (later h) = later (once-from ts z (Has-filter_from (λ u. not (is_same u t)) (distinct_tuples ts) z h))

fresh-itself : (ts : List (List ℤ)) → new_tuples ts ts ≡ []
fresh-itself ts = filter-none (λ t. not (list_any (is_same t) ts)) (distinct_tuples ts) (λ t h. ap not (any_if (is_same t) ts t (once-from ts t h) (same-itself t)))

-- a column lies in its domain exactly where the comparisons hold
ends : (x l h : ℤ) → (int_lt (l -ℤ pos 1) x && (int_lt x (h +ℤ pos 1) && true)) ≡ (not (int_lt x l) && not (int_lt h x))
ends x l h = grind (arith, ints)

written_domains : (v : Assignment) (ds : List Domain) → list_all (meets v) (flat_map as_comparisons ds) ≡ list_all (λ d. lies_in d (v d.attr)) ds
written_domains v [] = refl
written_domains v (d ∷ ds) =
    all-append (meets v) (as_comparisons d) (flat_map as_comparisons ds)
    ∙ ap (λ b. b && list_all (meets v) (flat_map as_comparisons ds)) (ends (v d.attr) d.lo d.hi)
    ∙ ap (λ b. lies_in d (v d.attr) && b) (written_domains v ds)

holds-written : (q : QueryValue) (v : Assignment) → holds (written q) v ≡ (holds q v && keeps_domains q v)
holds-written q v = all-append (meets v) q.atoms (flat_map as_comparisons q.domains) ∙ ap (λ b. holds q v && b) (written_domains v q.domains)

-- two numbers
which : (i j : ℕ) → (i < j) ⊎ ((j < i) ⊎ (i ≡ j))
which zero zero = inr (inr refl)
which zero (suc j) = inl (omega arith)
which (suc i) zero = inr (inl (omega arith))
which (suc i) (suc j) = elim (which i j) [
  | inl l ↦ inl (omega (arith, l))
  | inr o ↦ elim o [ inl l ↦ inr (inl (omega (arith, l))) | inr e ↦ inr (inr (ap suc e)) ]
]

module _ (q : QueryValue) (p : IsFormed q) where
  -- whether a row keeps to the domains at each place of its stream, from a place on
  abbrev keeps_from : ℕ → List ℕ → Arrival → Bool
  keeps_from n [] r = true
  keeps_from n (s ∷ from) r = (not (nat_eq r.stream s) || keeps_at q n (by_column r.values)) && keeps_from (suc n) from r

  pub keeps : Arrival → Bool
  keeps r = keeps_from 0 q.from r

  each_from : (n : ℕ) (from : List ℕ) (r : Arrival) → keeps_from n from r ≡ true → (i m : ℕ) → m ≡ n + i → i < length from → slice_index_or from i 0 ≡ r.stream
      → keeps_at q m (by_column r.values) ≡ true
  each_from n [] r h i m e l f = absurd (omega (arith, l))
  each_from n (s ∷ from) r h zero m e l f =
      elim (or-cases (not (nat_eq r.stream s)) (keeps_at q n (by_column r.values)) (and-left _ (keeps_from (suc n) from r) h)) [
        | inl g ↦ absurd (grind (arith, f, g))
        | inr g ↦ subst (λ (k : ℕ). keeps_at q k (by_column r.values) ≡ true) (sym (e ∙ nothing n)) g
      ]
    where
      nothing : (n : ℕ) → n + 0 ≡ n
      nothing n = omega arith
  each_from n (s ∷ from) r h (suc i) m e l f =
      each_from (suc n) from r (and-right (not (nat_eq r.stream s) || keeps_at q n (by_column r.values)) (keeps_from (suc n) from r) h) i m (omega (arith, e)) (omega (arith, l)) f

  from_each : (n : ℕ) (from : List ℕ) (r : Arrival)
      → ((i m : ℕ) → m ≡ n + i → i < length from → slice_index_or from i 0 ≡ r.stream → keeps_at q m (by_column r.values) ≡ true) → keeps_from n from r ≡ true
  from_each n [] r h = refl
  from_each n (s ∷ from) r h =
      and-both (not (nat_eq r.stream s) || keeps_at q n (by_column r.values)) (keeps_from (suc n) from r) (by (nat_eq r.stream s) refl)
      (from_each (suc n) from r (λ i m e l f. h (suc i) m (omega (arith, e)) (omega (arith, l)) f))
    where
      by : (b : Bool) → nat_eq r.stream s ≡ b → (not b || keeps_at q n (by_column r.values)) ≡ true
      by true e = or-right false (keeps_at q n (by_column r.values)) (h 0 n (omega arith) (omega arith) (let f : s ≡ r.stream = sym (nat_true r.stream s e) in f))
      by false e = refl

  pub keeps-row : (r : Arrival) → keeps r ≡ true → RowKeeps q r
  unfolding keeps
  keeps-row r h place l e = each_from 0 q.from r h place place (omega arith) l e

  pub row-keeps : (r : Arrival) → RowKeeps q r → keeps r ≡ true
  unfolding keeps
  row-keeps r h = from_each 0 q.from r (λ i m e l f. let g : i ≡ m = omega (arith, e) in subst (λ (k : ℕ). keeps_at q k (by_column r.values) ≡ true) g (h i l f))

  one_place : (i j : ℕ) → i < length q.from → j < length q.from → slice_index_or q.from i 0 ≡ slice_index_or q.from j 0 → i ≡ j
  one_place i j l k e = by i j l k e (p.different i j 0) (p.different j i 0)
    where
      by : (i j : ℕ) → i < length q.from → j < length q.from → slice_index_or q.from i 0 ≡ slice_index_or q.from j 0
          → (i < j → j < length q.from → slice_index_or q.from i 0 ≢ slice_index_or q.from j 0)
          → (j < i → i < length q.from → slice_index_or q.from j 0 ≢ slice_index_or q.from i 0) → i ≡ j
      by i j l k e f g = elim (which i j) [
        | inl m ↦ absurd (f m k e)
        | inr o ↦ elim o [ inl m ↦ absurd (g m l (sym e)) | inr m ↦ m ]
      ]

  -- at its own place
  keeps-there : (r : Arrival) (n : ℕ) → n < length q.from → slice_index_or q.from n 0 ≡ r.stream → keeps r ≡ keeps_at q n (by_column r.values)
  keeps-there r n l e = same_bool (keeps r) (keeps_at q n (by_column r.values))
      (λ h. keeps-row r h n l e)
      (λ h. row-keeps r (λ i k f. (let g : n ≡ i = one_place n i l k (e ∙ sym f) in subst (λ (m : ℕ). keeps_at q m (by_column r.values) ≡ true) g h)))

  -- the rows that keep to them
  abbrev pub kept : List Arrival → List Arrival
  kept h = filter keeps h

  abbrev fits_at : ℕ → List ℤ → Bool
  fits_at n row = keeps_at q n (by_column row)

  rows-kept : (h : List Arrival) (n : ℕ) → n < length q.from → rows (kept h) (slice_index_or q.from n 0) ≡ filter (fits_at n) (rows h (slice_index_or q.from n 0))
  rows-kept [] n l = refl
  rows-kept (r ∷ h) n l = by (r.stream == s) (keeps r) refl (λ e. keeps-there r n l (sym (nat_true r.stream s e))) (rows-kept h n l)
    where
      s : ℕ
      s = slice_index_or q.from n 0

      by : (b c : Bool) → (r.stream == s) ≡ b → (b ≡ true → c ≡ fits_at n r.values) → rows (kept h) s ≡ filter (fits_at n) (rows h s)
          → rows (cond c (r ∷ kept h) (kept h)) s ≡ filter (fits_at n) (map (λ t. t.values) (cond b (r ∷ filter (λ t. t.stream == s) h) (filter (λ t. t.stream == s) h)))
      by true true e f g =
          rows-first r (kept h) s true e ∙ ap (λ (l : List (List ℤ)). r.values ∷ l) g
          ∙ ap (λ b. cond b (r.values ∷ filter (fits_at n) (rows h s)) (filter (fits_at n) (rows h s))) (f refl)
      by true false e f g = g ∙ ap (λ b. cond b (r.values ∷ filter (fits_at n) (rows h s)) (filter (fits_at n) (rows h s))) (f refl)
      by false true e f g = rows-first r (kept h) s false e ∙ g
      by false false e f g = g

  -- whether each row of a combination keeps to them at its place
  abbrev passes : ℕ → List (List ℤ) → Bool
  passes n [] = true
  passes n (row ∷ c) = fits_at n row && passes (suc n) c

  passes_with : (n : ℕ) (row : List ℤ) (cs : List (List (List ℤ)))
      → filter (passes n) (map (λ c. row ∷ c) cs) ≡ cond (fits_at n row) (map (λ c. row ∷ c) (filter (passes (suc n)) cs)) []
  passes_with n row cs = by (fits_at n row) refl cs
    where
      by : (b : Bool) → fits_at n row ≡ b → (cs : List (List (List ℤ))) → filter (passes n) (map (λ c. row ∷ c) cs) ≡ cond b (map (λ c. row ∷ c) (filter (passes (suc n)) cs)) []
      by true e [] = refl
      by false e [] = refl
      by true e (c ∷ cs) =
          ap (λ b. cond (b && passes (suc n) c) ((row ∷ c) ∷ filter (passes n) (map (λ c. row ∷ c) cs)) (filter (passes n) (map (λ c. row ∷ c) cs))) e
          ∙ one (passes (suc n) c) (by true e cs)
        where
          one : (b : Bool) → filter (passes n) (map (λ c. row ∷ c) cs) ≡ map (λ c. row ∷ c) (filter (passes (suc n)) cs)
              → cond b ((row ∷ c) ∷ filter (passes n) (map (λ c. row ∷ c) cs)) (filter (passes n) (map (λ c. row ∷ c) cs))
              ≡ map (λ c. row ∷ c) (cond b (c ∷ filter (passes (suc n)) cs) (filter (passes (suc n)) cs))
          one true f = ap (λ (l : List (List (List ℤ))). (row ∷ c) ∷ l) f
          one false f = f
      by false e (c ∷ cs) =
          ap (λ b. cond (b && passes (suc n) c) ((row ∷ c) ∷ filter (passes n) (map (λ c. row ∷ c) cs)) (filter (passes n) (map (λ c. row ∷ c) cs))) e
          ∙ by false e cs

  passes_each : (n : ℕ) (cs : List (List (List ℤ))) (xs : List (List ℤ))
      → flat_map (λ x. map (λ c. x ∷ c) (filter (passes (suc n)) cs)) (filter (fits_at n) xs) ≡ filter (passes n) (flat_map (λ x. map (λ c. x ∷ c) cs) xs)
  passes_each n cs [] = refl
  passes_each n cs (x ∷ xs) =
      by (fits_at n x) refl (passes_each n cs xs)
      ∙ sym (filter-append (passes n) (map (λ c. x ∷ c) cs) (flat_map (λ x. map (λ c. x ∷ c) cs) xs))
    where
      F : List ℤ → List (List (List ℤ))
      F x = map (λ c. x ∷ c) (filter (passes (suc n)) cs)

      rest : List (List (List ℤ))
      rest = filter (passes n) (flat_map (λ x. map (λ c. x ∷ c) cs) xs)

      by : (b : Bool) → fits_at n x ≡ b → flat_map F (filter (fits_at n) xs) ≡ rest
          → flat_map F (cond b (x ∷ filter (fits_at n) xs) (filter (fits_at n) xs)) ≡ filter (passes n) (map (λ c. x ∷ c) cs) ++ rest
      by true e f = ap (λ (l : List (List (List ℤ))). F x ++ l) f ∙ ap (λ (l : List (List (List ℤ))). l ++ rest) (sym (passes_with n x cs ∙ ap (λ b. cond b (F x) []) e))
      by false e f = f ∙ ap (λ (l : List (List (List ℤ))). l ++ rest) (sym (passes_with n x cs ∙ ap (λ b. cond b (F x) []) e))

  product-kept : (f g : ℕ → List (List ℤ)) (n : ℕ) (from : List ℕ)
      → ((i m : ℕ) → m ≡ n + i → i < length from → g (slice_index_or from i 0) ≡ filter (fits_at m) (f (slice_index_or from i 0)))
      → product (map g from) ≡ filter (passes n) (product (map f from))
  product-kept f g n [] h = refl
  product-kept f g n (s ∷ from) h =
      ap (λ (cs : List (List (List ℤ))). flat_map (λ x. map (λ c. x ∷ c) cs) (g s)) (product-kept f g (suc n) from (λ i m e l. h (suc i) m (omega (arith, e)) (omega (arith, l))))
      ∙ ap (λ (xs : List (List ℤ)). flat_map (λ x. map (λ c. x ∷ c) (filter (passes (suc n)) (product (map f from)))) xs) (h 0 n (omega arith) (omega arith))
      ∙ passes_each n (product (map f from)) (f s)

  -- a combination passes exactly where it keeps to the domains
  each_passes : (n : ℕ) (c : List (List ℤ)) → passes n c ≡ true → (i m : ℕ) → m ≡ n + i → i < length c → keeps_at q m (at_place (map by_column c) i) ≡ true
  each_passes n [] h i m e l = absurd (omega (arith, l))
  each_passes n (row ∷ c) h zero m e l = (let f : n ≡ m = omega (arith, e) in subst (λ (k : ℕ). keeps_at q k (by_column row) ≡ true) f (and-left (fits_at n row) (passes (suc n) c) h))
  each_passes n (row ∷ c) h (suc i) m e l = each_passes (suc n) c (and-right (fits_at n row) (passes (suc n) c) h) i m (omega (arith, e)) (omega (arith, l))

  passes_if : (n : ℕ) (c : List (List ℤ)) → ((i m : ℕ) → m ≡ n + i → i < length c → keeps_at q m (at_place (map by_column c) i) ≡ true) → passes n c ≡ true
  passes_if n [] h = refl
  passes_if n (row ∷ c) h =
      and-both (fits_at n row) (passes (suc n) c) (h 0 n (omega arith) (omega arith)) (passes_if (suc n) c (λ i m e l. h (suc i) m (omega (arith, e)) (omega (arith, l))))

  passes-keeps : (c : List (List ℤ)) → length c ≡ length q.from → passes 0 c ≡ keeps_domains q (assignment_of c)
  passes-keeps c e = same_bool (passes 0 c) (keeps_domains q (assignment_of c))
      (λ h. each_keeps q (assignment_of c) (λ d i. (
      let n : ℕ = d.attr.stream in
      let l : n < length q.from = p.placed d i in
      let k : keeps_at q n (at_place (map by_column c) n) ≡ true = each_passes 0 c h n n (omega arith) (omega (arith, l, e)) in
      elim (or-cases (not (nat_eq d.attr.stream n)) (lies_in d (at_place (map by_column c) n d.attr.column))
      (all_at (λ (d : Domain). not (nat_eq d.attr.stream n) || lies_in d (at_place (map by_column c) n d.attr.column)) q.domains d k i)) [
        | inl g ↦ absurd (grind (arith, g))
        | inr g ↦ g
      ])))
      (λ h. passes_if 0 c (λ i m f l. all_if (λ (d : Domain). not (nat_eq d.attr.stream m) || lies_in d (at_place (map by_column c) i d.attr.column)) q.domains (λ d j.
      (let g : i ≡ m = omega (arith, f) in subst (λ (m : ℕ). (not (nat_eq d.attr.stream m) || lies_in d (at_place (map by_column c) i d.attr.column)) ≡ true) g
      (there c d i (keeps_each q (assignment_of c) h d j))))))
    where
      there : (c : List (List ℤ)) (d : Domain) (i : ℕ) → lies_in d (at_place (map by_column c) d.attr.stream d.attr.column) ≡ true
          → (not (nat_eq d.attr.stream i) || lies_in d (at_place (map by_column c) i d.attr.column)) ≡ true
      there c d i h = by (nat_eq d.attr.stream i) (λ e. nat_true d.attr.stream i e)
        where
          by : (b : Bool) → (b ≡ true → d.attr.stream ≡ i) → (not b || lies_in d (at_place (map by_column c) i d.attr.column)) ≡ true
          by true f = subst (λ (k : ℕ). lies_in d (at_place (map by_column c) k d.attr.column) ≡ true) (f refl) h
          by false f = refl

  answers-written : (h : List Arrival) → answers (written q) h ≡ answers q (kept h)
  answers-written h =
      ap (map P) (filter-same (λ c. holds (written q) (assignment_of c)) (λ c. holds q (assignment_of c) && passes 0 c) combinations (λ c i.
      holds-written q (assignment_of c)
      ∙ ap (λ b. holds q (assignment_of c) && b) (sym (passes-keeps c (product-length (map (rows h) q.from) c i ∙ length-map q.from (rows h)))))
      ∙ filter-both (λ c. holds q (assignment_of c)) (passes 0) combinations
      ∙ ap (filter (λ c. holds q (assignment_of c))) (sym (product-kept (rows h) (rows (kept h)) 0 q.from (λ i m e l.
      (let f : i ≡ m = omega (arith, e) in subst (λ (k : ℕ). rows (kept h) (slice_index_or q.from i 0) ≡ filter (fits_at k) (rows h (slice_index_or q.from i 0))) f (rows-kept h i l))))))
    where
      P : List (List ℤ) → List ℤ
      P c = projected q (assignment_of c)

      combinations : List (List (List ℤ))
      combinations = product (map (rows h) q.from)

  kept-more : (h : List Arrival) (r : Arrival) → kept (h ++ r ∷ []) ≡ kept h ++ cond (keeps r) (r ∷ []) []
  kept-more h r = filter-append keeps h (r ∷ [])

  -- to a row within the domains it answers as after the rows within them
  pub new-kept : (h : List Arrival) (r : Arrival) → keeps r ≡ true → new_answers (written q) h r ≡ new_answers q (kept h) r
  unfolding new_answers
  new-kept h r e =
      let before : answers (written q) h ≡ answers q (kept h) = answers-written h in
      let now : answers (written q) (h ++ r ∷ []) ≡ answers q (kept h ++ r ∷ [])
      = answers-written (h ++ r ∷ []) ∙ ap (answers q) (kept-more h r ∙ ap (λ b. kept h ++ cond b (r ∷ []) []) e) in
      λ i. cond q.distinct (sorted (new_tuples (before i) (now i))) (sorted (bag_minus (now i) (before i)))

  -- and to one outside them it answers nothing
  pub new-outside : (h : List Arrival) (r : Arrival) → keeps r ≡ false → new_answers (written q) h r ≡ []
  unfolding new_answers
  new-outside h r e =
      let now : answers (written q) (h ++ r ∷ []) ≡ answers (written q) h
      = answers-written (h ++ r ∷ []) ∙ ap (answers q) (kept-more h r ∙ ap (λ b. kept h ++ cond b (r ∷ []) []) e ∙ append-nil (kept h)) ∙ sym (answers-written h) in
      ap (λ (l : List (List ℤ)). cond q.distinct (sorted (new_tuples (answers (written q) h) l)) (sorted (bag_minus l (answers (written q) h)))) now
      ∙ by q.distinct (answers (written q) h)
    where
      by : (b : Bool) (l : List (List ℤ)) → cond b (sorted (new_tuples l l)) (sorted (bag_minus l l)) ≡ []
      by true l = ap sorted (fresh-itself l)
      by false l = ap sorted (minus-itself l)
