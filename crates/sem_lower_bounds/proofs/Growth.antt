-- Powers of 2 outgrow multiples.
use Rattle.std.proofs.Common.{◌≡◌, ℕ, zero, suc, ◌+◌, ◌*◌, ◌<◌, ◌≤◌, ◌^◌, arith, pow-add, pow-suc, mul-le-mul, ◌∙◌, sym, ap}
use Rattle.std.proofs.Math.Nat.{pow-zero}

pub self-below : (n : ℕ) → n < 2 ^ n
self-below zero = omega arith
self-below (suc n) = let e : 2 ^ suc n ≡ 2 * 2 ^ n = grind arith in omega (arith, e, self-below n)

-- a number m with a * (m + c) up to 2^m
pub record Outgrows (a c : ℕ) : Type 0 where
  pub m : ℕ
  pub holds : a * (m + c) ≤ 2 ^ m

pub outgrows : (a c : ℕ) → Outgrows a c
outgrows a c =
    let j : ℕ = a + c + 2 in
    let e : 2 ^ (a + c + 2) ≡ 2 ^ (a + c) * 2 ^ 2 = pow-add 2 (a + c) 2 in
    let s : a + c < 2 ^ (a + c) = self-below (a + c) in
    let f : 2 ^ (j + j) ≡ 2 ^ j * 2 ^ j = pow-add 2 j j in
    let g : a * (j + j + c) ≤ 2 ^ j * 2 ^ j = mul-le-mul {n₁ = a} {m₁ = j + j + c} {n₂ = 2 ^ j} {m₂ = 2 ^ j} (omega (arith, e, s)) (omega (arith, e, s)) in
    record { m = j + j; holds = omega (arith, f, g) }

-- a power of a power
pub pow-mul : (x i j : ℕ) → x ^ (i * j) ≡ (x ^ i) ^ j
pow-mul x i zero =
    let e : i * 0 ≡ 0 = omega arith in
    ap (λ (k : ℕ). x ^ k) e ∙ pow-zero x ∙ sym (pow-zero (x ^ i))
pow-mul x i (suc j) =
    let e : i * suc j ≡ i * j + i = grind arith in
    let f : (x ^ i) ^ suc j ≡ (x ^ i) ^ j * x ^ i = pow-suc (x ^ i) j in
    ap (λ (k : ℕ). x ^ k) e ∙ pow-add x (i * j) i ∙ ap (λ (k : ℕ). k * x ^ i) (pow-mul x i j) ∙ sym f
