-- Of some elements a few that cover all: whatever single value is excluded of each of some columns, one of them is no worse than any that is left.
use Rattle.std.proofs.Common.{◌≡◌, ◌≢◌, ℕ, zero, suc, ◌+◌, ◌*◌, ◌≤◌, inl, inr, ℤ, ◌≤ℤ◌, ◌<ℤ◌, int_lt, List, [], ◌∷◌, ◌++◌, filter, length, Bool, true, false, not, cond, refl, sym, ◌∙◌, subst, arith, length-append, mul-le-mul}
use Rattle.std.proofs.lemmas.Int.{ints}
use Rattle.std.specs.List.{flat_map}
use Rattle.std.specs.Ordering.{int_eq}
use Rattle.sem_query.proofs.Has.{Has, first, later, Has-nil, Has-append_left, Has-append_right, Has-append_cases, Has-flat_map, Has-flat_map_from, Has-filter, Has-filter_from, Has-filter_holds}
use Rattle.sem_laws.proofs.OnePartFits.{has_cases}
use Rattle.sem_laws.proofs.Tests.{true_or_false}

-- so many elements cover where so many columns have an excluded value
pub most_covering : ℕ → ℕ
most_covering zero = 1
most_covering (suc k) = most_covering k + most_covering k * most_covering k

-- as long as each piece is not longer than m
pub short_pieces : {X Y : Type 0} (f : X → List Y) (m : ℕ) (xs : List X) → ((x : X) → length (f x) ≤ m) → length (flat_map f xs) ≤ length xs * m
short_pieces f m [] h = omega arith
short_pieces f m (x ∷ xs) h =
    let e : length (f x ++ flat_map f xs) ≡ length (f x) + length (flat_map f xs) = length-append (f x) (flat_map f xs) in
    let r : length (flat_map f xs) ≤ length xs * m = short_pieces f m xs h in
    let o : length (f x) ≤ m = h x in
    let g : suc (length xs) * m ≡ m + length xs * m = grind arith in
    omega (arith, e, r, o, g)

some_covering : (k : ℕ) → 1 ≤ most_covering k
unfolding most_covering
some_covering zero = omega arith
some_covering (suc k) = omega (arith, some_covering k)

-- elements are better where they rank lower, and differ in columns
module _ {X U : Type 0} (rank : X → ℤ) (at : U → X → ℤ) where
  -- the first of those that rank lowest
  lowest : X → List X → X
  lowest x [] = x
  lowest x (y ∷ ys) = lowest (cond (int_lt (rank y) (rank x)) y x) ys

  -- the best, and for each of its values in a column the best without that value
  pub covering : List U → List X → List X
  covering [] [] = []
  covering [] (x ∷ xs) = lowest x xs ∷ []
  covering (u ∷ us) xs = let ys = covering us xs in ys ++ flat_map (λ y. covering us (filter (λ x. not (int_eq (at u x) (at u y))) xs)) ys

  lowest_from : (x : X) (xs : List X) → Has (x ∷ xs) (lowest x xs)
  unfolding lowest
  lowest_from x [] = first
  lowest_from x (y ∷ ys) = by (int_lt (rank y) (rank x)) (lowest_from (cond (int_lt (rank y) (rank x)) y x) ys)
    where
      by : (b : Bool) → Has (cond b y x ∷ ys) (lowest (cond b y x) ys) → Has (x ∷ y ∷ ys) (lowest (cond b y x) ys)
      by true h = later h
      by false h = elim (has_cases x (lowest x ys) ys h) [ inl e ↦ subst (Has (x ∷ y ∷ ys)) e first | inr k ↦ later (later k) ]

  lowest_first : (x : X) (xs : List X) → rank (lowest x xs) ≤ℤ rank x
  unfolding lowest
  lowest_first x [] = omega (arith, ints)
  lowest_first x (y ∷ ys) = by (int_lt (rank y) (rank x)) refl (lowest_first (cond (int_lt (rank y) (rank x)) y x) ys)
    where
      by : (b : Bool) → int_lt (rank y) (rank x) ≡ b → rank (lowest (cond b y x) ys) ≤ℤ rank (cond b y x) → rank (lowest (cond b y x) ys) ≤ℤ rank x
      by true e h = let l : rank y <ℤ rank x = grind (arith, ints, e) in omega (arith, ints, h, l)
      by false e h = h

  lowest_all : (x : X) (xs : List X) (z : X) → Has xs z → rank (lowest x xs) ≤ℤ rank z
  unfolding lowest
  lowest_all x [] z h = Has-nil h
  lowest_all x (y ∷ ys) z h = elim (has_cases y z ys h) [
    | inl i ↦ subst (λ z. rank (lowest x (y ∷ ys)) ≤ℤ rank z) i (by (int_lt (rank y) (rank x)) refl (lowest_first (cond (int_lt (rank y) (rank x)) y x) ys))
    | inr k ↦ lowest_all (cond (int_lt (rank y) (rank x)) y x) ys z k
  ]
    where
      by : (b : Bool) → int_lt (rank y) (rank x) ≡ b → rank (lowest (cond b y x) ys) ≤ℤ rank (cond b y x) → rank (lowest (cond b y x) ys) ≤ℤ rank y
      by true e h = h
      by false e h = let l : rank x ≤ℤ rank y = grind (arith, ints, e) in omega (arith, ints, h, l)

  -- the elements without the value of one of them
  abbrev without : U → X → List X → List X
  without u y xs = filter (λ x. not (int_eq (at u x) (at u y))) xs

  pub covering_from : (us : List U) (xs : List X) (y : X) → Has (covering us xs) y → Has xs y
  unfolding covering
  covering_from [] [] y h = Has-nil h
  covering_from [] (x ∷ xs) y h = elim (has_cases (lowest x xs) y [] h) [ inl e ↦ subst (Has (x ∷ xs)) e (lowest_from x xs) | inr k ↦ Has-nil k ]
  covering_from (u ∷ us) xs y h = elim (Has-append_cases (covering us xs) (flat_map (λ y. covering us (without u y xs)) (covering us xs)) y h) [
    | inl k ↦ covering_from us xs y k
    | inr k ↦ (let r = Has-flat_map_from (λ y. covering us (without u y xs)) (covering us xs) y k in
        Has-filter_from (λ x. not (int_eq (at u x) (at u r.0))) xs y (covering_from us (without u r.0 xs) y r.2))
  ]

  pub covering_size : (k : ℕ) (us : List U) (xs : List X) → length us ≤ k → length (covering us xs) ≤ most_covering k
  unfolding covering most_covering
  covering_size k [] [] l = omega (arith, some_covering k)
  covering_size k [] (x ∷ xs) l = some_covering k
  covering_size zero (u ∷ us) xs l = absurd (omega (arith, l))
  covering_size (suc k) (u ∷ us) xs l =
      let one : length (covering us xs) ≤ most_covering k = covering_size k us xs (omega (arith, l)) in
      let more : length (flat_map (λ y. covering us (without u y xs)) (covering us xs)) ≤ length (covering us xs) * most_covering k
      = short_pieces (λ y. covering us (without u y xs)) (most_covering k) (covering us xs) (λ y. covering_size k us (without u y xs) (omega (arith, l))) in
      let m : length (covering us xs) * most_covering k ≤ most_covering k * most_covering k
      = mul-le-mul {n₁ = length (covering us xs)} {m₁ = most_covering k} {n₂ = most_covering k} {m₂ = most_covering k} one (omega arith) in
      let e : length (covering us xs ++ flat_map (λ y. covering us (without u y xs)) (covering us xs)) ≡ length (covering us xs) + length (flat_map (λ y. covering us (without u y xs)) (covering us xs))
      = length-append (covering us xs) (flat_map (λ y. covering us (without u y xs)) (covering us xs)) in
      omega (arith, one, more, m, e)

  differ_test : (x y : ℤ) → x ≢ y → not (int_eq x y) ≡ true
  differ_test x y n = grind (arith, ints, n)

  test_differs : (x y : ℤ) → not (int_eq x y) ≡ true → x ≢ y
  test_differs x y e = grind (arith, ints, e)

  -- an element that has none of the excluded values is not better than one of them that has none
  pub covers : (excluded : U → ℤ) (us : List U) (xs : List X) (x : X) → Has xs x → ((u : U) → Has us u → at u x ≢ excluded u)
      → (y : X) × Has (covering us xs) y × (rank y ≤ℤ rank x) × ((u : U) → Has us u → at u y ≢ excluded u)
  unfolding covering
  covers excluded [] [] x h n = Has-nil h
  covers excluded [] (z ∷ xs) x h n = (
    lowest z xs,
    first,
    elim (has_cases z x xs h) [ inl e ↦ subst (λ x. rank (lowest z xs) ≤ℤ rank x) e (lowest_first z xs) | inr k ↦ lowest_all z xs x k ],
    λ u k. Has-nil k,
  )
  covers excluded (u ∷ us) xs x h n =
      by (λ ys k. covers excluded us ys x k (λ t k. n t (later k))) (covers excluded us xs x h (λ t k. n t (later k)))
    where
      all : (y : X) → at u y ≢ excluded u → ((t : U) → Has us t → at t y ≢ excluded t) → (t : U) → Has (u ∷ us) t → at t y ≢ excluded t
      all y one more t k = elim (has_cases u t us k) [ inl e ↦ subst (λ t. at t y ≢ excluded t) e one | inr j ↦ more t j ]

      -- where the best has an excluded value, what covers without that value
      instead : (y : X) → Has (covering us xs) y → at u y ≡ excluded u
          → ((z : X) × Has (covering us (without u y xs)) z × (rank z ≤ℤ rank x) × ((t : U) → Has us t → at t z ≢ excluded t))
          → (z : X) × Has (covering (u ∷ us) xs) z × (rank z ≤ℤ rank x) × ((t : U) → Has (u ∷ us) t → at t z ≢ excluded t)
      instead y i same r = (r.0, Has-append_right (covering us xs) (Has-flat_map (λ y. covering us (without u y xs)) (covering us xs) y r.0 i r.1), r.2, all r.0 one r.3)
        where
          one : at u r.0 ≢ excluded u
          one k = test_differs (at u r.0) (at u y) (Has-filter_holds (λ x. not (int_eq (at u x) (at u y))) xs r.0 (covering_from us (without u y xs) r.0 r.1)) (k ∙ sym same)

      by : ((ys : List X) → Has ys x → (y : X) × Has (covering us ys) y × (rank y ≤ℤ rank x) × ((t : U) → Has us t → at t y ≢ excluded t))
          → ((y : X) × Has (covering us xs) y × (rank y ≤ℤ rank x) × ((t : U) → Has us t → at t y ≢ excluded t))
          → (y : X) × Has (covering (u ∷ us) xs) y × (rank y ≤ℤ rank x) × ((t : U) → Has (u ∷ us) t → at t y ≢ excluded t)
      by again y = elim (true_or_false (int_eq (at u y.0) (excluded u))) [
        | inr e ↦ (y.0, Has-append_left (flat_map (λ y. covering us (without u y xs)) (covering us xs)) y.1, y.2, all y.0 (grind (arith, ints, e)) y.3)
        | inl e ↦ (
            let same : at u y.0 ≡ excluded u = grind (arith, ints, e) in
            instead y.0 y.1 same (again (without u y.0 xs) (Has-filter (λ x. not (int_eq (at u x) (at u y.0))) (differ_test (at u x) (at u y.0) (λ k. n u first (k ∙ same))) h)))
      ]
