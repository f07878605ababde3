-- Pairs and lists of natural numbers as natural numbers.
use Rattle.std.proofs.Common.{◌≡◌, ℕ, zero, suc, ◌+◌, List, [], ◌∷◌, length, refl, sym, ap, ◌∙◌, arith}

-- 1 + 2 + .. + s
triangle : ℕ → ℕ
triangle zero = 0
triangle (suc s) = triangle s + suc s

-- the place of a pair along the diagonals
pub paired : ℕ → ℕ → ℕ
paired a b = triangle (a + b) + b

-- the pair behind a pair along the diagonals
abbrev next : ℕ → ℕ → ℕ × ℕ
next zero b = (suc b, 0)
next (suc a) b = (a, suc b)

-- the pair at a place
pub parted : ℕ → ℕ × ℕ
parted zero = (0, 0)
parted (suc n) = next (parted n).0 (parted n).1

along : (s a b : ℕ) → a + b ≡ s → parted (triangle s + b) ≡ (a, b)
unfolding parted triangle
along zero zero b e =
    let z : b ≡ 0 = omega (arith, e) in
    ap (λ (k : ℕ). parted (0 + k)) z ∙ ap (λ (k : ℕ). (0, k)) (sym z)
along zero (suc a) b e = absurd (omega (arith, e))
along (suc s) a zero e =
    let f : triangle s + suc s + 0 ≡ suc (triangle s + s) = omega arith in
    let z : suc s ≡ a = omega (arith, e) in
    ap parted f ∙ ap (λ (p : ℕ × ℕ). next p.0 p.1) (along s 0 s (omega arith)) ∙ ap (λ (k : ℕ). (k, 0)) z
along (suc s) a (suc b) e =
    let f : triangle s + suc s + suc b ≡ suc (triangle s + suc s + b) = omega arith in
    ap parted f ∙ ap (λ (p : ℕ × ℕ). next p.0 p.1) (along (suc s) (suc a) b (omega (arith, e)))

-- a pair is found again at its place
pub parted-paired : (a b : ℕ) → parted (paired a b) ≡ (a, b)
unfolding paired
parted-paired a b = along (a + b) a b refl

-- a list of numbers as one number
pub coded : List ℕ → ℕ
coded [] = 0
coded (x ∷ xs) = paired x (coded xs)

-- the list of so many numbers that a number is
pub numbers : ℕ → ℕ → List ℕ
numbers zero s = []
numbers (suc k) s = (parted s).0 ∷ numbers k (parted s).1

pub numbers-coded : (xs : List ℕ) → numbers (length xs) (coded xs) ≡ xs
unfolding coded numbers
numbers-coded [] = refl
numbers-coded (x ∷ xs) =
    ap (λ (p : ℕ × ℕ). p.0 ∷ numbers (length xs) p.1) (parted-paired x (coded xs)) ∙ ap (λ l. x ∷ l) (numbers-coded xs)
