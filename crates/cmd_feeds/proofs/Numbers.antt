-- The numbers below one that pass a test.
use Rattle.std.proofs.Common.{◌≡◌, ℕ, zero, suc, ◌+◌, ◌≤◌, Bool, true, false, cond, List, [], ◌∷◌, ◌++◌, length, filter, refl, sym, ap, ◌∙◌, append-nil, arith}
use Rattle.std.specs.List.{range_with_len}
use Rattle.sql_catalog.specs.Streams.{Shape}
use Rattle.cmd_feeds.specs.Gates.{is_named, numbers_named}

pub filter-size : (p : ℕ → Bool) (from n : ℕ) → length (filter p (range_with_len from n)) ≤ n
filter-size p from zero = omega arith
filter-size p from (suc n) = by_test (p from) (filter-size p (from + 1) n)
  where
    by_test : (b : Bool) → length (filter p (range_with_len (from + 1) n)) ≤ n → length (cond b (from ∷ filter p (range_with_len (from + 1) n)) (filter p (range_with_len (from + 1) n))) ≤ suc n
    by_test true l = omega (arith, l)
    by_test false l = omega (arith, l)

-- one number more behind the others
range-more : (from n : ℕ) → range_with_len from (suc n) ≡ range_with_len from n ++ (from + n) ∷ []
range-more from zero = ap (λ (k : ℕ). k ∷ []) (let z : from ≡ from + 0 = omega arith in z)
range-more from (suc n) = ap (λ l. from ∷ l) (range-more (from + 1) n ∙ ap (λ (k : ℕ). range_with_len (from + 1) n ++ k ∷ []) (let z : (from + 1) + n ≡ from + suc n = omega arith in z))

filter-append : (p : ℕ → Bool) (xs ys : List ℕ) → filter p (xs ++ ys) ≡ filter p xs ++ filter p ys
filter-append p [] ys = refl
filter-append p (x ∷ xs) ys = by_test (p x) (filter-append p xs ys)
  where
    by_test : (b : Bool) → filter p (xs ++ ys) ≡ filter p xs ++ filter p ys → cond b (x ∷ filter p (xs ++ ys)) (filter p (xs ++ ys)) ≡ cond b (x ∷ filter p xs) (filter p xs) ++ filter p ys
    by_test true e = ap (λ l. x ∷ l) e
    by_test false e = e

last : (p : ℕ → Bool) (n : ℕ) → filter p (range_with_len 0 (n + 1)) ≡ filter p (range_with_len 0 n) ++ cond (p n) (n ∷ []) []
last p n = ap (λ (k : ℕ). filter p (range_with_len 0 k)) (let z : n + 1 ≡ suc n = omega arith in z) ∙ ap (filter p) (range-more 0 n ∙ ap (λ (k : ℕ). range_with_len 0 n ++ k ∷ []) (let z : 0 + n ≡ n = omega arith in z)) ∙ filter-append p (range_with_len 0 n) (n ∷ [])

pub filter-more : (p : ℕ → Bool) (n : ℕ) → p n ≡ true → filter p (range_with_len 0 n) ++ n ∷ [] ≡ filter p (range_with_len 0 (n + 1))
filter-more p n e = sym (last p n ∙ ap (λ b. filter p (range_with_len 0 n) ++ cond b (n ∷ []) []) e)

pub filter-same : (p : ℕ → Bool) (n : ℕ) → p n ≡ false → filter p (range_with_len 0 n) ≡ filter p (range_with_len 0 (n + 1))
filter-same p n e = sym (last p n ∙ ap (λ b. filter p (range_with_len 0 n) ++ cond b (n ∷ []) []) e ∙ append-nil (filter p (range_with_len 0 n)))

pub numbers-named : (streams : List Shape) (names : List (List ℕ)) → filter (is_named streams names) (range_with_len 0 16) ≡ numbers_named streams names
unfolding numbers_named
numbers-named streams names = refl
