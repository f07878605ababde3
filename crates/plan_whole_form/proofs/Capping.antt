-- Sums, products and maxima of numbers that 64 bits keep.
use Rattle.std.proofs.Common.{◌≡◌, ℕ, ◌+◌, ◌-◌, ◌*◌, ◌^◌, ◌<◌, ◌≤◌, ◌⊎◌, inl, inr, min, max, ap, ap₂, ◌∙◌, arith}
use Rattle.std.proofs.Math.Nat.{min-eq_left, min-eq_right, mul_comm}
use Rattle.std.proofs.lemmas.Nat.{mul-le}
use Rattle.plan_whole_form.specs.Numbers.{capped}

in_order : (a m : ℕ) → (a ≤ m) ⊎ (m ≤ a)
in_order a m = grind arith

zero_or : (n : ℕ) → (n ≡ 0) ⊎ (0 < n)
zero_or n = grind arith

both_most : (m x y : ℕ) → m ≤ x → m ≤ y → min x m ≡ min y m
both_most m x y h k = omega arith

at_least : (a b : ℕ) → 0 < b → a ≤ a * b
at_least a b h = let p : a * 1 ≤ a * b = mul-le a 1 a b (omega arith) h in omega (arith, p)

-- a factor that is not kept whole
times_most : (m a b : ℕ) → m ≤ a → min (min a m * min b m) m ≡ min (a * b) m
times_most m a b h =
    let e : min a m ≡ m = min-eq_right h in
    elim (zero_or b) [
      | inl z ↦
          (let f : min b m ≡ 0 = omega (arith, z) in
          let p : a * b ≡ a * 0 = ap (λ x. a * x) z in
          ap₂ (λ x y. min (x * y) m) e f ∙ omega (arith, p))
      | inr k ↦ elim (zero_or m) [
        | inl z ↦ omega (arith, z)
        | inr n ↦
            (let p : m ≤ m * min b m = at_least m (min b m) (omega (arith, k, n)) in
            let r : a ≤ a * b = at_least a b k in
            ap (λ x. min (x * min b m) m) e ∙ both_most m (m * min b m) (a * b) p (omega (arith, r, h)))
      ]
    ]

times : (m a b : ℕ) → min (min a m * min b m) m ≡ min (a * b) m
times m a b = elim (in_order m a) [
  | inl h ↦ times_most m a b h
  | inr h ↦ elim (in_order m b) [
    | inl k ↦ ap (λ x. min x m) (mul_comm (min a m) (min b m)) ∙ times_most m b a k ∙ ap (λ x. min x m) (mul_comm b a)
    | inr k ↦ ap₂ (λ x y. min (x * y) m) (min-eq_left h) (min-eq_left k)
  ]
]

pub capped-times : (a b : ℕ) → capped (capped a * capped b) ≡ capped (a * b)
capped-times a b = times (2 ^ 64 - 1) a b

pub capped-plus : (a b : ℕ) → capped (capped a + capped b) ≡ capped (a + b)
capped-plus a b = plus (2 ^ 64 - 1) a b
  where
    plus : (m a b : ℕ) → min (min a m + min b m) m ≡ min (a + b) m
    plus m a b = omega arith

pub capped-max : (a b : ℕ) → max (capped a) (capped b) ≡ capped (max a b)
capped-max a b = greatest (2 ^ 64 - 1) a b
  where
    greatest : (m a b : ℕ) → max (min a m) (min b m) ≡ min (max a b) m
    greatest m a b = omega arith
