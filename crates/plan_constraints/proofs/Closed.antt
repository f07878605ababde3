-- Closed tables of bounds: a value at each node, from a table and a starting value.
use Rattle.std.proofs.Common.{◌≡◌, ℕ, zero, suc, ◌<◌, ℤ, ◌+ℤ◌, ◌≤ℤ◌, int_lt, cond, ◌⊎◌, inl, inr, refl, arith, Option, Some, None, true, false}
use Rattle.std.proofs.lemmas.Int.{ints}
use Rattle.plan_constraints.specs.Table.{Table, AtMost, IsClosed}
use Rattle.plan_constraints.specs.Reach.{with_bound, reach}

pub with_bound-le : (o : Option ℤ) (h z : ℤ) → with_bound o h z ≤ℤ z
with_bound-le None h z = omega (arith, ints)
with_bound-le (Some d) h z = grind (arith, ints)

pub with_bound-le_bound : (d h z : ℤ) → with_bound (Some d) h z ≤ℤ (d +ℤ h)
with_bound-le_bound d h z = grind (arith, ints)

pub reach-le_own : (t : Table) (h : ℕ → ℤ) (n k : ℕ) → reach t h n k ≤ℤ h k
reach-le_own t h zero k = omega (arith, ints)
reach-le_own t h (suc n) k =
    let a : with_bound (t k n) (h n) (reach t h n k) ≤ℤ reach t h n k = with_bound-le (t k n) (h n) (reach t h n k) in
    let b : reach t h n k ≤ℤ h k = reach-le_own t h n k in
    omega (arith, ints)

pub reach-le : (t : Table) (h : ℕ → ℤ) (n k m : ℕ) (d : ℤ) → m < n → t k m ≡ Some d → reach t h n k ≤ℤ (d +ℤ h m)
reach-le t h zero k m d l e = absurd (omega arith)
reach-le t h (suc n) k m d l e = elim (last m n l) [
  | inl s ↦ rw (s, e) at_last
  | inr s ↦ let a : with_bound (t k n) (h n) (reach t h n k) ≤ℤ reach t h n k = with_bound-le (t k n) (h n) (reach t h n k) in
      let b : reach t h n k ≤ℤ (d +ℤ h m) = reach-le t h n k m d s e in
      omega (arith, ints)
]
  where
    last : (m n : ℕ) → m < suc n → (n ≡ m) ⊎ (m < n)
    last m n l = grind arith

    at_last : with_bound (Some d) (h m) (reach t h m k) ≤ℤ (d +ℤ h m)
    at_last = with_bound-le_bound d (h m) (reach t h m k)

-- what the value of a node comes from
pub data Source (t : Table) (h : ℕ → ℤ) (n k : ℕ) (z : ℤ) : Type 0 where
  own : z ≡ h k → Source t h n k z
  along : (m : ℕ) (d : ℤ) → m < n → t k m ≡ Some d → z ≡ d +ℤ h m → Source t h n k z

pub source_of : (t : Table) (h : ℕ → ℤ) (n k : ℕ) → Source t h n k (reach t h n k)
source_of t h zero k = own refl
source_of t h (suc n) k = step (t k n) refl (source_of t h n k)
  where
    wider : (z : ℤ) → Source t h n k z → Source t h (suc n) k z
    wider z (own e) = own e
    wider z (along m d l e f) = along m d (omega arith) e f

    step : (o : Option ℤ) → t k n ≡ o → Source t h n k (reach t h n k) → Source t h (suc n) k (with_bound o (h n) (reach t h n k))
    step None e s = wider _ s
    step (Some d) e s =
        elim (int_lt (d +ℤ h n) (reach t h n k)) as (λ b. Source t h (suc n) k (cond b (d +ℤ h n) (reach t h n k)))
        [ true ↦ along n d (omega arith) e refl | false ↦ wider _ s ]

-- in a closed table the values keep within each bound
pub reach-within : (n : ℕ) (t : Table) → IsClosed n t → (h : ℕ → ℤ) (i j : ℕ) (d : ℤ) → i < n → j < n → t i j ≡ Some d → reach t h n i ≤ℤ (d +ℤ reach t h n j)
reach-within n t c h i j d l m e = from (reach t h n j) (source_of t h n j)
  where
    from : (z : ℤ) → Source t h n j z → reach t h n i ≤ℤ (d +ℤ z)
    from z (own f) = let a : reach t h n i ≤ℤ (d +ℤ h j) = reach-le t h n i j d m e in omega (arith, ints)
    from z (along k g u f e2) =
        let r : AtMost t i k (d +ℤ g) = c.closed i j k l m u d g e f in
        let a : reach t h n i ≤ℤ (r.bound +ℤ h k) = reach-le t h n i k r.bound u r.is in
        let b : r.bound ≤ℤ (d +ℤ g) = r.small in
        omega (arith, ints)
