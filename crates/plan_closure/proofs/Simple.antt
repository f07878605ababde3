-- Lists without an element twice.
use Rattle.std.proofs.Common.{◌≡◌, ◌≢◌, ℕ, zero, suc, ◌<◌, ◌≤◌, ◌⊎◌, inl, inr, refl, sym, ap, subst, arith, Bool, true, false, cond, eqb, List, [], ◌∷◌, length, le_refl, suc-le-suc}
use Rattle.sem_query.proofs.Has.{Has, first, later}

-- no element stands twice
pub data IsSimple {A : Type 0} : List A → Type 0 where
  none : IsSimple []
  more : {x : A} {xs : List A} → ¬ Has xs x → IsSimple xs → IsSimple (x ∷ xs)

-- xs without n
without : ℕ → List ℕ → List ℕ
without n [] = []
without n (x ∷ xs) = cond (eqb x n) (without n xs) (x ∷ without n xs)

split : (b : Bool) → (b ≡ true) ⊎ (b ≡ false)
split true = inl refl
split false = inr refl

without-absent : (n : ℕ) (xs : List ℕ) → ¬ Has xs n → without n xs ≡ xs
unfolding without
without-absent n [] h = refl
without-absent n (x ∷ xs) h = elim (split (eqb x n)) [
  | inl e ↦ absurd (h (let s : n ≡ x = grind arith in subst (λ z. Has (x ∷ xs) z) (sym s) first))
  | inr e ↦ let r : without n xs ≡ xs = without-absent n xs (λ p. h (later p)) in rw e (ap (λ z. x ∷ z) r)
]

kept_from : (b : Bool) (n x z : ℕ) (xs ys : List ℕ) → eqb x n ≡ b → (Has ys z → Has xs z × (z ≢ n)) → Has (cond b ys (x ∷ ys)) z → Has (x ∷ xs) z × (z ≢ n)
kept_from true n x z xs ys e up h = let r : Has xs z × (z ≢ n) = up h in (later r.0, r.1)
kept_from false n x z xs ys e up first = (first, (let ne : x ≢ n = grind arith in ne))
kept_from false n x z xs ys e up (later h) = let r : Has xs z × (z ≢ n) = up h in (later r.0, r.1)

without-from : (n : ℕ) (xs : List ℕ) (z : ℕ) → Has (without n xs) z → Has xs z × (z ≢ n)
unfolding without
without-from n [] z h = elim h [ ]
without-from n (x ∷ xs) z h = kept_from (eqb x n) n x z xs (without n xs) refl (without-from n xs z) h

without-simple : (n : ℕ) (xs : List ℕ) → IsSimple xs → IsSimple (without n xs)
unfolding without
without-simple n [] s = none
without-simple n (x ∷ xs) (more a s) =
    elim (eqb x n) as (λ b. IsSimple (cond b (without n xs) (x ∷ without n xs))) [
      | true ↦ without-simple n xs s
      | false ↦ more (λ h. a (without-from n xs x h).0) (without-simple n xs s)
    ]

length-without : (n : ℕ) (xs : List ℕ) → IsSimple xs → length xs ≤ suc (length (without n xs))
unfolding without
length-without n [] s = omega arith
length-without n (x ∷ xs) (more a s) = elim (split (eqb x n)) [
  | inl e ↦ let same : n ≡ x = grind arith in
      let r : without n xs ≡ xs = without-absent n xs (λ p. a (subst (λ z. Has xs z) same p)) in
      rw (e, r) (le_refl (suc (length xs)))
  | inr e ↦ let r : length xs ≤ suc (length (without n xs)) = length-without n xs s in rw e (suc-le-suc r)
]

-- different numbers below n are at most n
pub length-simple : (n : ℕ) (xs : List ℕ) → IsSimple xs → ((z : ℕ) → Has xs z → z < n) → length xs ≤ n
length-simple zero [] s f = omega arith
length-simple zero (x ∷ xs) s f = let h : x < 0 = f x first in absurd (omega arith)
length-simple (suc n) xs s f =
    let r : length (without n xs) ≤ n = length-simple n (without n xs) (without-simple n xs s)
    (λ z h. let p : Has xs z × (z ≢ n) = without-from n xs z h in
    let a : z < suc n = f z p.0 in
    let b : z ≢ n = p.1 in
    omega arith) in
    let l : length xs ≤ suc (length (without n xs)) = length-without n xs s in
    omega arith
