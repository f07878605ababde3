-- Cells that stand equally far apart.
use Rattle.std.proofs.Common.{◌≡◌, ℕ, zero, suc, ◌+◌, ◌*◌, ◌/◌, ◌%◌, ◌<◌, ◌≤◌, ◌^◌, List, [], ◌∷◌, length, drop, get_or, map, sym, ap, ◌∙◌, subst, arith, ℤ, pos, ◌+ℤ◌, ◌-ℤ◌, ◌≤ℤ◌}
use Rattle.std.specs.Prelude.{nat_abs}
use Rattle.std.proofs.lemmas.Int.{ints}
use Rattle.std.proofs.lemmas.List.{drop_more, drop_all, length-map}
use Rattle.std.proofs.lemmas.Nat.{div-add-mod'}
use Rattle.std.proofs.Math.Nat.{div-one, div-eq_of_lt, mod-eq_of_lt, mod-one, mod-lt}
use Rattle.sem_query.specs.Boxes.{dim_size, box_size, values_at, place_of, AreInside, AreNumbered}
use Rattle.sem_query.specs.declared.plan.Dim.{Dim}
use Rattle.sem_query.proofs.BoxLaws.{place-below, range-inside, sound-from, as-many}

-- one value alone
pub one_value : (values combinations size stride : ℕ) → values ≡ 1 → (i : ℕ) → i < values * combinations → i / combinations * size + i % combinations * stride ≡ i * stride
one_value values combinations size stride e i l =
    let m : i < combinations = subst (λ n. i < n) (ap (λ n. n * combinations) e ∙ (let o : 1 * combinations ≡ combinations = omega arith in o)) l in
    (λ k. div-eq_of_lt m k * size + mod-eq_of_lt m k * stride) ∙ (let o : 0 * size + i * stride ≡ i * stride = omega arith in o)

-- one combination of the later dims
pub one_later : (values combinations size stride : ℕ) → combinations ≡ 1 → (i : ℕ) → i < values * combinations → i / combinations * size + i % combinations * stride ≡ i * size
one_later values combinations size stride e i l =
    (λ k. i / e k * size + i % e k * stride) ∙ (λ k. div-one i k * size + mod-one i k * stride) ∙ (let o : i * size + 0 * stride ≡ i * size = omega arith in o)

-- all combinations of the later dims
pub all_later : (values combinations size stride : ℕ) → stride ≡ 1 → size ≡ combinations → (i : ℕ) → i < values * combinations → i / combinations * size + i % combinations * stride ≡ i * 1
all_later values combinations size stride e f i l =
    (λ k. i / combinations * f k + i % combinations * e k) ∙ (let d = div-add-mod' i combinations in omega (arith, d))

-- one dim more, before the others
pub line-more : (f d : Dim) (fs ds : List Dim) (base first stride apart : ℕ) → ((i : ℕ) → i < box_size ds → base + place_of fs (values_at ds i) ≡ first + i * stride)
    → f.lo ≤ℤ d.lo → 0 < box_size ds
    → ((i : ℕ) → i < dim_size d * box_size ds → i / box_size ds * box_size fs + i % box_size ds * stride ≡ i * apart)
    → (i : ℕ) → i < box_size (d ∷ ds) → base + place_of (f ∷ fs) (values_at (d ∷ ds) i) ≡ (first + nat_abs (d.lo -ℤ f.lo) * box_size fs) + i * apart
line-more f d fs ds base first stride apart line low some even i l =
    let q = i / box_size ds in
    let r = i % box_size ds in
    let off = nat_abs (d.lo -ℤ f.lo) in
    let o : nat_abs ((d.lo +ℤ pos q) -ℤ f.lo) ≡ off + q = omega (arith, ints, low) in
    let h = line r (mod-lt i some) in
    let e = even i l in
    ap (λ n. base + (n * box_size fs + place_of fs (values_at ds r))) o ∙ shape base off q (box_size fs) (place_of fs (values_at ds r)) first (r * stride) (i * apart) h e
  where
    shape : (base off q size place first more all : ℕ) → base + place ≡ first + more → q * size + more ≡ all → base + ((off + q) * size + place) ≡ (first + off * size) + all
    shape base off q size place first more all h e = omega (arith, h, e)

module _ (full dims : List Dim) (inside : AreInside full (map (λ d. d.lo) dims)) where
  inside-short : length dims ≡ length full
  inside-short = let a = as-many full (map (λ d. d.lo) dims) inside in let b = length-map dims (λ (d : Dim). d.lo) in omega (arith, a, b)

pub inside-from : (full dims : List Dim) (i : ℕ) → AreInside full (map (λ d. d.lo) dims) → AreInside (drop i full) (map (λ d. d.lo) (drop i dims))
inside-from full dims zero h = h
inside-from [] [] (suc i) h = tt
inside-from [] (d ∷ dims) (suc i) h = absurd h
inside-from (f ∷ full) [] (suc i) h = absurd h
inside-from (f ∷ full) (d ∷ dims) (suc i) h = inside-from full dims i h.2

some-values : (f : Dim) (v : ℤ) → f.lo ≤ℤ v → v ≤ℤ f.hi → 0 < dim_size f
some-values f v l m = let r = range-inside f.lo f.hi v l m in omega (arith, r)

one-at-least : (x S : ℕ) → 0 < x → S ≤ x * S
one-at-least zero S l = absurd (omega (arith, l))
one-at-least (suc x) S l = omega arith

size-from : (full dims : List Dim) (i : ℕ) → AreInside full (map (λ d. d.lo) dims) → box_size (drop i full) ≤ box_size full
size-from full dims zero h = omega arith
size-from [] [] (suc i) h = omega arith
size-from [] (d ∷ dims) (suc i) h = absurd h
size-from (f ∷ full) [] (suc i) h = absurd h
size-from (f ∷ full) (d ∷ dims) (suc i) h =
    let a = size-from full dims i h.2 in
    let b = one-at-least (dim_size f) (box_size full) (some-values f d.lo h.0 h.1) in
    omega (arith, a, b)

some-later : (x S : ℕ) → 0 < x * S → 0 < S
some-later x zero l = absurd (omega (arith, l))
some-later x (suc S) l = omega arith

some-from : (dims : List Dim) (i : ℕ) → 0 < box_size dims → 0 < box_size (drop i dims)
some-from dims zero h = h
some-from [] (suc i) h = omega arith
some-from (d ∷ dims) (suc i) h = some-from dims i (some-later (dim_size d) (box_size dims) h)

-- what is known at one dim, where the later ones begin at i
pub record AtOne (full dims : List Dim) (base i : ℕ) (f d : Dim) : Type 0 where
  pub low : f.lo ≤ℤ d.lo
  pub high : d.lo ≤ℤ f.hi
  pub size : dim_size f < 2 ^ 32
  pub count : dim_size d < 2 ^ 32
  pub sizes : dim_size f * box_size (drop i full) < 2 ^ 32
  pub counts : dim_size d * box_size (drop i dims) < 2 ^ 32
  pub some : 0 < box_size (drop i dims)
  pub place : base + (nat_abs (d.lo -ℤ f.lo) * box_size (drop i full) + place_of (drop i full) (map (λ e. e.lo) (drop i dims))) < 2 ^ 32

module _ (full dims : List Dim) (base : ℕ) (numbered : AreNumbered full) (fits : base + box_size full < 2 ^ 32) (sound : AreNumbered dims) (some : 0 < box_size dims) (inside : AreInside full (map (λ d. d.lo) dims)) where
  pub short-of : (j : ℕ) → j < length dims → j < length full
  short-of j l = let e = inside-short full dims inside in omega (arith, e, l)

  at-next : (j : ℕ) (o : Dim) → j < length dims → AtOne full dims base (j + 1) (get_or full j o) (get_or dims j o)
  at-next j o l =
      let m : j < length full = short-of j l in
      let f = get_or full j o in
      let d = get_or dims j o in
      let here = subst (λ fs. AreInside fs (map (λ e. e.lo) (drop j dims))) (drop_more full j o m) (inside-from full dims j inside) in
      let g = subst (λ ds. AreInside (f ∷ drop (j + 1) full) (map (λ e. e.lo) ds)) (drop_more dims j o l) here in
      let b = place-below (f ∷ drop (j + 1) full) (d.lo ∷ map (λ e. e.lo) (drop (j + 1) dims)) g in
      let s = subst AreNumbered (drop_more full j o m) (sound-from full j numbered) in
      let t = subst AreNumbered (drop_more dims j o l) (sound-from dims j sound) in
      let w = ap box_size (drop_more full j o m) in
      let z = size-from full dims j inside in
      record {
        low = g.0;
        high = g.1;
        size = s.0;
        count = t.0;
        sizes = s.1;
        counts = t.1;
        some = some-from dims (j + 1) some;
        place = omega (arith, b, w, z, fits);
      }

  pub at-one : (i j : ℕ) (o : Dim) → j + 1 ≡ i → j < length dims → AtOne full dims base i (get_or full j o) (get_or dims j o)
  at-one i j o e l = subst (λ n. AtOne full dims base n (get_or full j o) (get_or dims j o)) e (at-next j o l)

  -- the loop goes one dim on
  pub line-next : (i j first stride apart : ℕ) (o : Dim) → j + 1 ≡ i → j < length dims
      → ((k : ℕ) → k < box_size (drop i dims) → base + place_of (drop i full) (values_at (drop i dims) k) ≡ first + k * stride)
      → ((k : ℕ) → k < dim_size (get_or dims j o) * box_size (drop i dims) → k / box_size (drop i dims) * box_size (drop i full) + k % box_size (drop i dims) * stride ≡ k * apart)
      → (k : ℕ) → k < box_size (drop j dims) → base + place_of (drop j full) (values_at (drop j dims) k) ≡ (first + nat_abs ((get_or dims j o).lo -ℤ (get_or full j o).lo) * box_size (drop i full)) + k * apart
  line-next i j first stride apart o e l line even =
      let a = at-one i j o e l in
      let x : drop j full ≡ get_or full j o ∷ drop i full = drop_more full j o (short-of j l) ∙ ap (λ n. get_or full j o ∷ drop n full) e in
      let y : drop j dims ≡ get_or dims j o ∷ drop i dims = drop_more dims j o l ∙ ap (λ n. get_or dims j o ∷ drop n dims) e in
      let F : List Dim → List Dim → Type 0 = λ fs ds. (k : ℕ) → k < box_size ds → base + place_of fs (values_at ds k) ≡ (first + nat_abs ((get_or dims j o).lo -ℤ (get_or full j o).lo) * box_size (drop i full)) + k * apart in
      subst (λ fs. F fs (drop j dims)) (sym x) (subst (λ ds. F (get_or full j o ∷ drop i full) ds) (sym y)
      (line-more (get_or full j o) (get_or dims j o) (drop i full) (drop i dims) base first stride apart line a.low a.some even))

  pub first-next : (i j first : ℕ) (o : Dim) → j + 1 ≡ i → j < length dims
      → first ≡ base + place_of (drop i full) (map (λ d. d.lo) (drop i dims))
      → first + nat_abs ((get_or dims j o).lo -ℤ (get_or full j o).lo) * box_size (drop i full) ≡ base + place_of (drop j full) (map (λ d. d.lo) (drop j dims))
  first-next i j first o e l is =
      let x : drop j full ≡ get_or full j o ∷ drop i full = drop_more full j o (short-of j l) ∙ ap (λ n. get_or full j o ∷ drop n full) e in
      let y : drop j dims ≡ get_or dims j o ∷ drop i dims = drop_more dims j o l ∙ ap (λ n. get_or dims j o ∷ drop n dims) e in
      let z : base + place_of (drop j full) (map (λ d. d.lo) (drop j dims)) ≡ base + (nat_abs ((get_or dims j o).lo -ℤ (get_or full j o).lo) * box_size (drop i full) + place_of (drop i full) (map (λ d. d.lo) (drop i dims)))
      = λ k. base + place_of (x k) (map (λ d. d.lo) (y k)) in
      omega (arith, is, z)

  pub size-next-of : (xs : List Dim) (i j : ℕ) (o : Dim) → j + 1 ≡ i → j < length xs → box_size (drop j xs) ≡ dim_size (get_or xs j o) * box_size (drop i xs)
  size-next-of xs i j o e l = ap box_size (drop_more xs j o l) ∙ ap (λ n. dim_size (get_or xs j o) * box_size (drop n xs)) e

-- at the end of both lists
pub line-end : (full dims : List Dim) (base n : ℕ) → AreInside full (map (λ d. d.lo) dims) → n ≡ length dims
    → (k : ℕ) → k < box_size (drop n dims) → base + place_of (drop n full) (values_at (drop n dims) k) ≡ base + k * 1
line-end full dims base n inside e =
    let s = inside-short full dims inside in
    let x = drop_all n full (omega (arith, s, e)) in
    let y = drop_all n dims (omega (arith, e)) in
    subst (λ fs. (k : ℕ) → k < box_size (drop n dims) → base + place_of fs (values_at (drop n dims) k) ≡ base + k * 1) (sym x)
    (subst (λ ds. (k : ℕ) → k < box_size ds → base + place_of [] (values_at ds k) ≡ base + k * 1) (sym y)
    (λ k l. omega (arith, l)))

pub line-end-size : (dims : List Dim) → 1 ≡ box_size (drop (length dims) dims)
line-end-size dims = sym (ap box_size (drop_all (length dims) dims (omega arith)))

pub full-end-size : (full dims : List Dim) → AreInside full (map (λ d. d.lo) dims) → 1 ≡ box_size (drop (length dims) full)
full-end-size full dims inside = let s = inside-short full dims inside in sym (ap box_size (drop_all (length dims) full (omega (arith, s))))

pub first-end : (full dims : List Dim) (base : ℕ) → AreInside full (map (λ d. d.lo) dims) → base ≡ base + place_of (drop (length dims) full) (map (λ d. d.lo) (drop (length dims) dims))
first-end full dims base inside =
    let s = inside-short full dims inside in
    let x : place_of (drop (length dims) full) (map (λ d. d.lo) (drop (length dims) dims)) ≡ 0 = ap (λ fs. place_of fs (map (λ d. d.lo) (drop (length dims) dims))) (drop_all (length dims) full (omega (arith, s))) in
    omega (arith, x)
