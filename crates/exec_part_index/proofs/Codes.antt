-- A code tells the signs that it was made of, where they are few.
use Rattle.std.proofs.Common.{◌≡◌, ℕ, suc, ◌+◌, ◌*◌, ◌%◌, ◌^◌, ◌<◌, ◌≤◌, List, [], ◌∷◌, length, refl, sym, ap, ap₂, ◌∙◌, arith, lit<}
use Rattle.std.proofs.Math.Nat.{pow-le-pow_right}
use Rattle.sem_query.specs.declared.part.Sign.{Sign}
use Rattle.exec_part_index.specs.PartIndex.{number_of, code_after}

small_number : (s : Sign) → number_of s < 3
small_number Sign.Lt = omega arith
small_number Sign.Eq = omega arith
small_number Sign.Gt = omega arith

same_number : (s t : Sign) → number_of s ≡ number_of t → s ≡ t
same_number Sign.Lt Sign.Lt h = refl
same_number Sign.Lt Sign.Eq h = absurd cc
same_number Sign.Lt Sign.Gt h = absurd cc
same_number Sign.Eq Sign.Lt h = absurd cc
same_number Sign.Eq Sign.Eq h = refl
same_number Sign.Eq Sign.Gt h = absurd cc
same_number Sign.Gt Sign.Lt h = absurd cc
same_number Sign.Gt Sign.Eq h = absurd cc
same_number Sign.Gt Sign.Gt h = refl

-- up to 20 digits of base three have less than 32 bits
digits_fit : (m : ℕ) → m ≤ 20 → 3 ^ m < 2 ^ 32
digits_fit m few = let h : 3 ^ m ≤ 3 ^ 20 = pow-le-pow_right (lit< tt) few in omega (arith, h)

-- a digit more of a code of m digits
digit_more : (m c n : ℕ) → suc m ≤ 20 → c < 3 ^ m → n < 3 → ((c * 3 + n) % 2 ^ 32 ≡ c * 3 + n) × (c * 3 + n < 3 ^ suc m)
digit_more m c n few small digit =
    let most = digits_fit (suc m) few in
    let step : 3 ^ suc m ≡ 3 ^ m * 3 = omega arith in
    let below : c * 3 + n < 3 ^ suc m = omega (arith, step, small, digit) in
    (omega (arith, below, most), below)

-- two codes are the same where what they begin with and the signs that follow are
pub same_code : (m c d : ℕ) (ss ts : List Sign) → m + length ss ≤ 20 → length ss ≡ length ts → c < 3 ^ m → d < 3 ^ m → code_after c ss ≡ code_after d ts → (c ≡ d) × (ss ≡ ts)
same_code m c d [] [] few many small less same = (same, refl)
same_code m c d [] (t ∷ ts) few many small less same = absurd (omega (arith, many))
same_code m c d (s ∷ ss) [] few many small less same = absurd (omega (arith, many))
same_code m c d (s ∷ ss) (t ∷ ts) few many small less same =
    let s_small = small_number s in
    let t_small = small_number t in
    let left = digit_more m c (number_of s) (omega (arith, few)) small s_small in
    let right = digit_more m d (number_of t) (omega (arith, few)) less t_small in
    let later = same_code (suc m) (c * 3 + number_of s) (d * 3 + number_of t) ss ts (omega (arith, few)) (omega (arith, many)) left.1 right.1
    (ap (λ (k : ℕ). code_after k ss) (sym left.0) ∙ same ∙ ap (λ (k : ℕ). code_after k ts) right.0) in
    let both : c * 3 + number_of s ≡ d * 3 + number_of t = later.0 in
    (omega (arith, both, s_small, t_small), ap₂ (λ (x : Sign) (xs : List Sign). x ∷ xs) (same_number s t (omega (arith, both, s_small, t_small))) later.1)
