-- Places and combinations are one to one.
use Rattle.std.proofs.Common.{◌≡◌, ℕ, zero, suc, ◌+◌, ◌-◌, ◌*◌, ◌/◌, ◌%◌, ◌<◌, ◌≤◌, ◌^◌, ◌⊎◌, inl, inr, List, [], ◌∷◌, ◌++◌, map, length, get_or, drop, refl, sym, ap, ◌∙◌, subst, arith, cond, ℤ, pos, ◌+ℤ◌, ◌-ℤ◌, ◌≤ℤ◌, int_lt, Bool, true, false, length-append}
use Rattle.std.specs.Prelude.{flat_map, nat_abs}
use Rattle.std.proofs.lemmas.Int.{ints}
use Rattle.std.proofs.lemmas.Nat.{div-add-mod', div-mul-add, mod-mul-add}
use Rattle.std.proofs.Math.Nat.{mod-lt, div-lt_iff_lt-mul, mul-le-mul_right, div-eq_of_lt, mod-eq_of_lt, mul-div_cancel_left}
use Rattle.std.proofs.lemmas.List.{get_or_append_left, get_or-append_right, get_or-map, length-map, drop_more, drop_all}
use Rattle.sem_query.specs.declared.plan.Dim.{Dim}
use Rattle.sem_query.specs.Boxes.{range_size, dim_size, box_size, values_from, box, place_of, values_at, AreInside, AreNumbered, AreFull}

pub range-inside : (lo hi v : ℤ) → lo ≤ℤ v → v ≤ℤ hi → nat_abs (v -ℤ lo) < range_size lo hi
range-inside lo hi v p q = by (int_lt hi lo) refl
  where
    by : (t : Bool) → int_lt hi lo ≡ t → nat_abs (v -ℤ lo) < cond t 0 (nat_abs (hi -ℤ lo) + 1)
    by true e = omega (arith, ints, p, q)
    by false e = omega (arith, ints, p, q)

pub range-below : (lo hi : ℤ) (n : ℕ) → n < range_size lo hi → (lo +ℤ pos n) ≤ℤ hi
range-below lo hi n = by (int_lt hi lo) refl
  where
    by : (t : Bool) → int_lt hi lo ≡ t → n < cond t 0 (nat_abs (hi -ℤ lo) + 1) → (lo +ℤ pos n) ≤ℤ hi
    by true e l = omega (arith, ints, l)
    by false e l = omega (arith, ints, l)

pub step-back : (lo v : ℤ) → lo ≤ℤ v → (lo +ℤ pos (nat_abs (v -ℤ lo))) ≡ v
step-back lo v p = omega (arith, ints)

pub step-on : (lo : ℤ) (n : ℕ) → nat_abs ((lo +ℤ pos n) -ℤ lo) ≡ n
step-on lo n = omega (arith, ints)

combined-below : (a n p s : ℕ) → a < n → p < s → a * s + p < n * s
combined-below a n p s l m = omega (arith, l, m, mul-le-mul_right s l)

pub place-below : (ds : List Dim) (vs : List ℤ) → AreInside ds vs → place_of ds vs < box_size ds
place-below [] [] h = omega arith
place-below [] (v ∷ vs) h = absurd h
place-below (d ∷ ds) [] h = absurd h
place-below (d ∷ ds) (v ∷ vs) h = combined-below _ _ _ _ (range-inside d.lo d.hi v h.0 h.1) (place-below ds vs h.2)

pub positive : (n s i : ℕ) → i < n * s → 0 < s
positive n zero i l = absurd (omega (arith, l))
positive n (suc s) i l = omega arith

pub values-inside : (ds : List Dim) (i : ℕ) → i < box_size ds → AreInside ds (values_at ds i)
values-inside [] i l = tt
values-inside (d ∷ ds) i l =
    let p : 0 < box_size ds = positive _ _ _ l in
    let q : i / box_size ds < dim_size d = (div-lt_iff_lt-mul p).1 l in
    (omega (arith, ints), range-below d.lo d.hi _ q, values-inside ds (i % box_size ds) (mod-lt i p))

pub place-values : (ds : List Dim) (i : ℕ) → i < box_size ds → place_of ds (values_at ds i) ≡ i
place-values [] i l = omega arith
place-values (d ∷ ds) i l =
    let p : 0 < box_size ds = positive _ _ _ l in
    ap (λ n. n * box_size ds + place_of ds (values_at ds (i % box_size ds))) (step-on d.lo (i / box_size ds))
    ∙ ap (λ n. i / box_size ds * box_size ds + n) (place-values ds (i % box_size ds) (mod-lt i p))
    ∙ div-add-mod' i (box_size ds)

pub values-place : (ds : List Dim) (vs : List ℤ) → AreInside ds vs → values_at ds (place_of ds vs) ≡ vs
values-place [] [] h = refl
values-place [] (v ∷ vs) h = absurd h
values-place (d ∷ ds) [] h = absurd h
values-place (d ∷ ds) (v ∷ vs) h =
    let p = place-below ds vs h.2 in
    ap (λ n. (d.lo +ℤ pos n) ∷ values_at ds ((nat_abs (v -ℤ d.lo) * box_size ds + place_of ds vs) % box_size ds)) (div-mul-add (nat_abs (v -ℤ d.lo)) (box_size ds) (place_of ds vs) p)
    ∙ ap (λ n. (d.lo +ℤ pos (nat_abs (v -ℤ d.lo))) ∷ values_at ds n) (mod-mul-add (nat_abs (v -ℤ d.lo)) (box_size ds) (place_of ds vs) p)
    ∙ ap (λ w. w ∷ values_at ds (place_of ds vs)) (step-back d.lo v h.0)
    ∙ ap (λ ws. v ∷ ws) (values-place ds vs h.2)

-- the members of a box, one by one
rows : List (List ℤ) → ℤ → List (List ℤ)
rows B v = map (λ vs. v ∷ vs) B

length-rows : (B : List (List ℤ)) (lo : ℤ) (n : ℕ) → length (flat_map (λ v. map (λ vs. v ∷ vs) B) (values_from lo n)) ≡ n * length B
length-rows B lo zero = omega arith
length-rows B lo (suc n) =
    length-append (map (λ vs. lo ∷ vs) B) (flat_map (λ v. map (λ vs. v ∷ vs) B) (values_from (lo +ℤ pos 1) n))
    ∙ (let a = length-map B (λ (vs : List ℤ). lo ∷ vs) in let b = length-rows B (lo +ℤ pos 1) n in omega (arith, a, b))

pub length-box : (ds : List Dim) → length (box ds) ≡ box_size ds
length-box [] = refl
length-box (d ∷ ds) = length-rows (box ds) d.lo (dim_size d) ∙ ap (λ n. dim_size d * n) (length-box ds)

div-less : (i s : ℕ) → 0 < s → s ≤ i → i / s ≡ suc ((i - s) / s)
div-less i s p l = omega (arith, div-mul-add (suc ((i - s) / s)) s ((i - s) % s) (mod-lt (i - s) p), ap (λ (n : ℕ). n / s) (split i s l))
  where
    split : (i s : ℕ) → s ≤ i → i ≡ suc ((i - s) / s) * s + (i - s) % s
    split i s l = omega (arith, div-add-mod' (i - s) s)

mod-less : (i s : ℕ) → 0 < s → s ≤ i → i % s ≡ (i - s) % s
mod-less i s p l = ap (λ (n : ℕ). n % s) (split i s l) ∙ mod-mul-add (suc ((i - s) / s)) s ((i - s) % s) (mod-lt (i - s) p)
  where
    split : (i s : ℕ) → s ≤ i → i ≡ suc ((i - s) / s) * s + (i - s) % s
    split i s l = omega (arith, div-add-mod' (i - s) s)

below-or : (i s : ℕ) → (i < s) ⊎ (s ≤ i)
below-or i s = grind arith

first-value : (lo : ℤ) (q : ℕ) → q ≡ 0 → lo ≡ (lo +ℤ pos q)
first-value lo q e = omega (arith, ints)

next-value : (lo : ℤ) (q r : ℕ) → q ≡ suc r → ((lo +ℤ pos 1) +ℤ pos r) ≡ (lo +ℤ pos q)
next-value lo q r e = omega (arith, ints)

at-first : (B others : List (List ℤ)) (s : ℕ) → length B ≡ s → (lo : ℤ) (i : ℕ) → i < s →
    get_or (map (λ vs. lo ∷ vs) B ++ others) i [] ≡ (lo +ℤ pos (i / s)) ∷ get_or B (i % s) []
at-first B others s e lo i h =
    get_or_append_left (map (λ vs. lo ∷ vs) B) others [] i (omega (arith, one, h))
    ∙ get_or-map (λ (vs : List ℤ). lo ∷ vs) B i [] [] (omega (arith, e, h))
    ∙ (λ k. first-value lo (i / s) (div-eq_of_lt h) k ∷ get_or B (sym (mod-eq_of_lt h) k) [])
  where
    one : length (map (λ vs. lo ∷ vs) B) ≡ s
    one = length-map B (λ (vs : List ℤ). lo ∷ vs) ∙ e

at-later : (B others : List (List ℤ)) (s : ℕ) → length B ≡ s → 0 < s → (lo : ℤ) (i : ℕ) → s ≤ i →
    get_or others (i - s) [] ≡ ((lo +ℤ pos 1) +ℤ pos ((i - s) / s)) ∷ get_or B ((i - s) % s) [] →
    get_or (map (λ vs. lo ∷ vs) B ++ others) i [] ≡ (lo +ℤ pos (i / s)) ∷ get_or B (i % s) []
at-later B others s e p lo i h ih =
    get_or-append_right (map (λ vs. lo ∷ vs) B) others s i [] (length-map B (λ (vs : List ℤ). lo ∷ vs) ∙ e) h
    ∙ ih
    ∙ (λ k. next-value lo (i / s) ((i - s) / s) (div-less i s p h) k ∷ get_or B (sym (mod-less i s p h) k) [])

at-rows : (B : List (List ℤ)) (s : ℕ) → length B ≡ s → 0 < s → (lo : ℤ) (n i : ℕ) → i < n * s →
    get_or (flat_map (λ v. map (λ vs. v ∷ vs) B) (values_from lo n)) i [] ≡ (lo +ℤ pos (i / s)) ∷ get_or B (i % s) []
at-rows B s e p lo zero i l = absurd (omega (arith, l))
at-rows B s e p lo (suc n) i l =
    elim (below-or i s) [
      | inl h ↦ at-first B _ s e lo i h
      | inr h ↦ at-later B _ s e p lo i h (at-rows B s e p (lo +ℤ pos 1) n (i - s) (omega (arith, l, h)))
    ]

pub at-box : (ds : List Dim) (i : ℕ) → i < box_size ds → get_or (box ds) i [] ≡ values_at ds i
at-box [] i l = let z : i ≡ 0 = omega (arith, l) in ap (λ n. get_or ([] ∷ []) n []) z
at-box (d ∷ ds) i l =
    let p : 0 < box_size ds = positive _ _ _ l in
    at-rows (box ds) (box_size ds) (length-box ds) p d.lo (dim_size d) i l
    ∙ ap (λ vs. (d.lo +ℤ pos (i / box_size ds)) ∷ vs) (at-box ds (i % box_size ds) (mod-lt i p))

-- the box from a place on
pub box-from : (ds : List Dim) (i : ℕ) → i < box_size ds → drop i (box ds) ≡ values_at ds i ∷ drop (i + 1) (box ds)
box-from ds i l = drop_more (box ds) i [] (omega (arith, l, length-box ds)) ∙ ap (λ vs. vs ∷ drop (i + 1) (box ds)) (at-box ds i l)

pub sound-from : (ds : List Dim) (i : ℕ) → AreNumbered ds → AreNumbered (drop i ds)
sound-from ds zero h = h
sound-from [] (suc i) h = tt
sound-from (d ∷ ds) (suc i) h = sound-from ds i h.2

pub size-at : (ds : List Dim) (i : ℕ) (d : Dim) → i < length ds → box_size (drop i ds) ≡ dim_size (get_or ds i d) * box_size (drop (i + 1) ds)
size-at ds i d l = ap box_size (drop_more ds i d l)

pub record RoomAt (ds : List Dim) (i : ℕ) (d : Dim) : Type 0 where
  pub one : dim_size (get_or ds i d) < 2 ^ 32
  pub all : dim_size (get_or ds i d) * box_size (drop (i + 1) ds) < 2 ^ 32

pub room-at : (ds : List Dim) (i : ℕ) (d : Dim) → i < length ds → AreNumbered (drop i ds) → RoomAt ds i d
room-at ds i d l h = let g = subst AreNumbered (drop_more ds i d l) h in record { one = g.0; all = g.1 }

pub sound-after : (ds : List Dim) (i : ℕ) (d : Dim) → i < length ds → AreNumbered (drop i ds) → AreNumbered (drop (i + 1) ds)
sound-after ds i d l h = (subst AreNumbered (drop_more ds i d l) h).2

left-below : (a b n : ℕ) → 0 < b → a * b < n → a < n
left-below a zero n p l = omega (arith, p)
left-below a (suc b) n p l = omega (arith, l)

right-below : (a b n : ℕ) → 0 < a → a * b < n → b < n
right-below zero b n p l = omega (arith, p)
right-below (suc a) b n p l = omega (arith, l)

pub full-dim-size : (d : Dim) → d.lo ≤ℤ d.hi → 0 < dim_size d
full-dim-size d h = let z = range-inside d.lo d.hi d.lo (omega (arith, ints)) h in omega (arith, z)

full-size : (ds : List Dim) → AreFull ds → 0 < box_size ds
full-size [] h = omega arith
full-size (d ∷ ds) h = let z = combined-below 0 (dim_size d) 0 (box_size ds) (full-dim-size d h.0) (full-size ds h.1) in omega (arith, z)

pub sound-full : (ds : List Dim) → AreFull ds → box_size ds < 2 ^ 32 → AreNumbered ds
sound-full [] h l = tt
sound-full (d ∷ ds) h l = (left-below _ _ _ (full-size ds h.1) l, l, sound-full ds h.1 (right-below _ _ _ (full-dim-size d h.0) l))

pub value-below : (ds : List Dim) (i : ℕ) (d : Dim) (D size rest : ℕ) → i < length ds → D ≡ dim_size (get_or ds i d) → size ≡ box_size (drop i ds) → rest < size → (rest / (size / D) < D) × (size / D ≡ box_size (drop (i + 1) ds)) × (0 < box_size (drop (i + 1) ds))
value-below ds i d D size rest l e f h =
    let same : size ≡ D * box_size (drop (i + 1) ds) = f ∙ size-at ds i d l ∙ ap (λ n. n * box_size (drop (i + 1) ds)) (sym e) in
    by D (box_size (drop (i + 1) ds)) size rest same h
  where
    by : (D S size rest : ℕ) → size ≡ D * S → rest < size → (rest / (size / D) < D) × (size / D ≡ S) × (0 < S)
    by zero S size rest e h = absurd (omega (arith, e, h))
    by (suc D) S size rest e h =
        let whole : size / suc D ≡ S = ap (λ n. n / suc D) e ∙ mul-div_cancel_left S (omega arith) in
        let some : 0 < S = positive (suc D) S rest (omega (arith, e, h)) in
        (subst (λ n. rest / n < suc D) (sym whole) ((div-lt_iff_lt-mul some).1 (omega (arith, e, h))), whole, some)

pub list-after : (ds : List Dim) (i : ℕ) (d : Dim) (rest : ℕ) → i < length ds → values_at (drop i ds) rest ≡ ((get_or ds i d).lo +ℤ pos (rest / box_size (drop (i + 1) ds))) ∷ values_at (drop (i + 1) ds) (rest % box_size (drop (i + 1) ds))
list-after ds i d rest l = ap (λ xs. values_at xs rest) (drop_more ds i d l)

pub size-next : (ds : List Dim) (i : ℕ) (d : Dim) (size D : ℕ) → 0 < i → i ≤ length ds → AreNumbered ds → size ≡ box_size (drop i ds) → D ≡ dim_size (get_or ds (i - 1) d) → size * D < 2 ^ 32
size-next ds i d size D p l s e f =
    let r = room-at ds (i - 1) d (omega (arith, p, l)) (sound-from ds (i - 1) s) in
    let same : i - 1 + 1 ≡ i = omega (arith, p) in
    let all : dim_size (get_or ds (i - 1) d) * box_size (drop i ds) < 2 ^ 32 = subst (λ n. dim_size (get_or ds (i - 1) d) * box_size (drop n ds) < 2 ^ 32) same r.all in
    subst (λ n. n * D < 2 ^ 32) (sym e) (subst (λ n. box_size (drop i ds) * n < 2 ^ 32) (sym f) (omega (arith, all)))

one-at-least : (x S : ℕ) → 0 < S → x ≤ x * S
one-at-least x zero l = absurd (omega (arith, l))
one-at-least x (suc S) l = omega arith

next-place : (a D o S p T : ℕ) → p < S → a * (D * S) + (o * S + p) ≡ T → a * D + o ≤ T
next-place a D o S p T l e = let m = one-at-least (a * D + o) S (omega (arith, l)) in omega (arith, m, e)

next-inside : (ds : List Dim) (vs : List ℤ) (d : Dim) (v : ℤ) (a T : ℕ) → AreInside (d ∷ ds) (v ∷ vs) → a * box_size (d ∷ ds) + place_of (d ∷ ds) (v ∷ vs) ≡ T → a * dim_size d + nat_abs (v -ℤ d.lo) ≤ T
next-inside ds vs d v a T h e = next-place a (dim_size d) (nat_abs (v -ℤ d.lo)) (box_size ds) (place_of ds vs) T (place-below ds vs h.2) e

pub as-many : (ds : List Dim) (vs : List ℤ) → AreInside ds vs → length ds ≡ length vs
as-many [] [] h = refl
as-many [] (v ∷ vs) h = absurd h
as-many (d ∷ ds) [] h = absurd h
as-many (d ∷ ds) (v ∷ vs) h = omega (arith, as-many ds vs h.2)

pub place-next : (ds : List Dim) (vs : List ℤ) (i : ℕ) (d : Dim) (v : ℤ) (a T : ℕ) → i < length ds → i < length vs → AreInside (drop i ds) (drop i vs) → a * box_size (drop i ds) + place_of (drop i ds) (drop i vs) ≡ T → a * dim_size (get_or ds i d) + nat_abs (get_or vs i v -ℤ (get_or ds i d).lo) ≤ T
place-next ds vs i d v a T l m h e =
    let F : List Dim → List ℤ → Type 0 = λ xs ys. AreInside xs ys × (a * box_size xs + place_of xs ys ≡ T) in
    let g : F (drop i ds) (drop i vs) = (h, e) in
    let g' = subst (λ xs. F xs (drop i vs)) (drop_more ds i d l) g in
    let g'' = subst (λ ys. F (get_or ds i d ∷ drop (i + 1) ds) ys) (drop_more vs i v m) g' in
    next-inside (drop (i + 1) ds) (drop (i + 1) vs) (get_or ds i d) (get_or vs i v) a T g''.0 g''.1

pub sound-total : (ds : List Dim) → AreNumbered ds → box_size ds < 2 ^ 32
sound-total [] h = omega arith
sound-total (d ∷ ds) h = h.1

pub place-end : (ds : List Dim) (vs : List ℤ) (i a : ℕ) → length ds ≤ i → a * box_size (drop i ds) + place_of (drop i ds) (drop i vs) ≡ place_of ds vs → a ≡ place_of ds vs
place-end ds vs i a l e = let g = subst (λ xs. a * box_size xs + place_of xs (drop i vs) ≡ place_of ds vs) (drop_all i ds l) e in omega (arith, g)
