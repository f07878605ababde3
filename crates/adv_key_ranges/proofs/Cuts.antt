-- Where ranges of so many values begin.
use Rattle.std.proofs.Common.{◌≡◌, ℕ, ◌+◌, ◌-◌, ◌*◌, ◌/◌, ◌^◌, ◌<◌, ◌≤◌, ◌⊎◌, inl, inr, Bool, true, false, nat_lt, refl, arith}
use Rattle.std.proofs.lemmas.Bool.Decides.{nat_tests}
use Rattle.std.proofs.Math.Nat.{le-div_iff_mul-le, add-mul-div_left, mul-le-mul_right, div-mul-le_self}
use Rattle.adv_key_ranges.specs.Cutting.{begins}

-- one of two numbers is not greater than the other, or greater
either : (a b : ℕ) → (a ≤ b) ⊎ (b + 1 ≤ a)
either a b = by (nat_lt b a) refl where
  by : (t : Bool) → nat_lt b a ≡ t → (a ≤ b) ⊎ (b + 1 ≤ a)
  by true e = inr (grind (arith, nat_tests))
  by false e = inl (grind (arith, nat_tests))

-- the values before a range are values
pub begins_within : (n k i : ℕ) → 0 < k → i ≤ k → begins n k i ≤ n
unfolding begins
begins_within n k i p l = elim (either ((i * n + (k - 1)) / k) n) [
  | inl h ↦ h
  | inr h ↦ (
      let over : (n + 1) * k ≤ i * n + (k - 1) = (le-div_iff_mul-le {k = k} {x = n + 1} {y = i * n + (k - 1)} p).0 h in
      let few : i * n ≤ k * n = mul-le-mul_right n l in
      let same : (n + 1) * k ≡ k * n + k = grind arith in
      absurd (omega (arith, over, few, same, p)))
]

-- a product of which one side is small
pub few_product : (n i : ℕ) → i ≤ 64 → n < 2 ^ 51 → i * n < 2 ^ 57
few_product n i l m = let few : i * n ≤ 64 * n = mul-le-mul_right n l in omega (arith, few, m)

-- with no more ranges than values each range has a value
pub begins-less : (n k i : ℕ) → 0 < k → k ≤ n → begins n k i + 1 ≤ begins n k (i + 1)
unfolding begins
begins-less n k i p l =
    let one : (i * n + (k - 1) + k * 1) / k ≡ (i * n + (k - 1)) / k + 1 = add-mul-div_left (i * n + (k - 1)) 1 p in
    let same : (i + 1) * n ≡ i * n + n = grind arith in
    let low : ((i * n + (k - 1)) / k + 1) * k ≤ i * n + (k - 1) + k * 1 = (le-div_iff_mul-le {k = k} {x = (i * n + (k - 1)) / k + 1} {y = i * n + (k - 1) + k * 1} p).0 (omega (arith, one)) in
    (le-div_iff_mul-le {k = k} {x = (i * n + (k - 1)) / k + 1} {y = (i + 1) * n + (k - 1)} p).1 (omega (arith, low, same, l))

pub begins_some : (n k i : ℕ) → 0 < k → k ≤ n → 0 < i → 0 < begins n k i
unfolding begins
begins_some n k i p l m =
    let few : 1 * n ≤ i * n = mul-le-mul_right n m in
    (le-div_iff_mul-le {k = k} {x = 1} {y = i * n + (k - 1)} p).1 (omega (arith, few, l, p))

-- ---- the range of a value, which is the x-th of n from 0

module _ (n k x : ℕ) (some : 0 < k) (inside : x < n) where
  -- its number is one of k
  pub number-below : x * k / n < k
  number-below = elim (either k (x * k / n)) [
    | inl h ↦ (
        let over : k * n ≤ x * k = (le-div_iff_mul-le {k = n} {x = k} {y = x * k} (omega (arith, inside))).0 h in
        let few : (x + 1) * k ≤ n * k = mul-le-mul_right k (omega (arith, inside)) in
        let same : (x + 1) * k ≡ x * k + k = grind arith in
        let turned : n * k ≡ k * n = grind arith in
        absurd (omega (arith, over, few, same, turned, some)))
    | inr h ↦ omega (arith, h)
  ]

  -- it begins at the value or below
  pub begins-below : begins n k (x * k / n) ≤ x
  unfolding begins
  begins-below = elim (either ((x * k / n * n + (k - 1)) / k) x) [
    | inl h ↦ h
    | inr h ↦ (
        let over : (x + 1) * k ≤ x * k / n * n + (k - 1) = (le-div_iff_mul-le {k = k} {x = x + 1} {y = x * k / n * n + (k - 1)} some).0 h in
        let few : x * k / n * n ≤ x * k = div-mul-le_self (x * k) n in
        let same : (x + 1) * k ≡ x * k + k = grind arith in
        absurd (omega (arith, over, few, same, some)))
  ]

  -- and the next one above it
  pub begins-above : x + 1 ≤ begins n k (x * k / n + 1)
  unfolding begins
  begins-above =
      let least : x * k + 1 ≤ (x * k / n + 1) * n = (elim (either ((x * k / n + 1) * n) (x * k)) [
        | inl h ↦ (
            let over : x * k / n + 1 ≤ x * k / n = (le-div_iff_mul-le {k = n} {x = x * k / n + 1} {y = x * k} (omega (arith, inside))).1 h in
            absurd (omega (arith, over)))
        | inr h ↦ h
      ]) in
      let same : (x + 1) * k ≡ x * k + k = grind arith in
      (le-div_iff_mul-le {k = k} {x = x + 1} {y = (x * k / n + 1) * n + (k - 1)} some).1 (omega (arith, least, same, some))
