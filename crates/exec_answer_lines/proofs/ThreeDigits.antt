-- The digits of numbers below 1,000, four bytes each.
use Rattle.std.proofs.Common.{◌≡◌, ℕ, zero, suc, ◌+◌, ◌-◌, ◌*◌, ◌/◌, ◌%◌, ◌<◌, ◌≤◌, List, [], ◌∷◌, ◌++◌, take, drop, length, refl, ap, ◌∙◌, arith, append_assoc}
use Rattle.std.specs.Fmt.{decimal}
use Rattle.std.proofs.lemmas.Fmt.{decimal_digit, decimal_step}
use Rattle.std.proofs.lemmas.List.{take-take}
use Rattle.itoa.proofs.Decimal.{decimal_two}
use lib.Lanes.{put_chunk}
use Rattle.exec_answer_lines.proofs.Tails.{put_before, tail_before}
use Rattle.exec_answer_lines.specs.Digits.{three_digits}
use Rattle.exec_answer_lines.specs.declared.threes.TheConstants.{FOURS}

-- so many rows from a number on
abbrev rows : ℕ → ℕ → List ℕ
rows zero k = []
rows (suc n) k = 48 ∷ (48 + k / 100 % 10) ∷ (48 + k / 10 % 10) ∷ (48 + k % 10) ∷ rows n (k + 1)

are_rows : FOURS ≡ rows 1000 0
are_rows = refl

row_at : (n j k : ℕ) → j < n → take 4 (drop (4 * j) (rows n k)) ≡ 48 ∷ three_digits (k + j)
row_at zero j k h = absurd (omega arith)
row_at (suc n) zero k h = let e : k + 0 ≡ k = omega arith in rw e refl
row_at (suc n) (suc j) k h =
    let e : 4 * suc j ≡ suc (suc (suc (suc (4 * j)))) = omega arith in
    let f : k + 1 + j ≡ k + suc j = omega arith in
    rw e (row_at n j (k + 1) (omega arith) ∙ ap (λ m. 48 ∷ three_digits m) f)

-- the row of a number
pub row_of : (n : ℕ) → n < 1000 → take 4 (drop (4 * n) FOURS) ≡ 48 ∷ three_digits n
row_of n h = let e : 0 + n ≡ n = omega arith in ap (λ l. take 4 (drop (4 * n) l)) are_rows ∙ row_at 1000 n 0 h ∙ ap (λ m. 48 ∷ three_digits m) e

-- the row of a number, put before a place
pub put_row : (xs : List ℕ) (e n : ℕ) → n < 1000 → 4 ≤ e → e ≤ length xs
    → drop (e - 3) (put_chunk (e - 4) xs (take 4 (take (4000 - 4 * n) (drop (4 * n) FOURS)))) ≡ three_digits n ++ drop e xs
put_row xs e n few room inside =
    let row = 48 ∷ three_digits n in
    let whole = take-take 4 (4000 - 4 * n) (drop (4 * n) FOURS) (omega (arith, few)) ∙ row_of n few in
    ap (λ l. drop (e - 3) (put_chunk (e - 4) xs l)) whole
    ∙ tail_before 4 _ row (drop e xs) e 3 refl (omega arith) room (put_before xs row e 4 refl room inside)

-- the text of a number of three digits, of two, and of one
pub decimal_three : (n : ℕ) → 100 ≤ n → n < 1000 → decimal n ≡ three_digits n
decimal_three n lo hi =
    let a : n / 10 / 10 ≡ n / 100 % 10 = omega arith in
    rw (decimal_step n (omega arith) (omega arith), decimal_step (n / 10) (omega arith) (omega arith), decimal_digit (n / 10 / 10) (omega arith), a)
    refl

pub two_of_three : (n : ℕ) → 10 ≤ n → n < 100 → decimal n ≡ drop 1 (three_digits n)
two_of_three n lo hi =
    let a : n / 10 ≡ n / 10 % 10 = omega arith in
    decimal_two n lo hi ∙ ap (λ m. (48 + m) ∷ (48 + n % 10) ∷ []) a

pub one_of_three : (n : ℕ) → n < 10 → decimal n ≡ drop 2 (three_digits n)
one_of_three n h =
    let a : n ≡ n % 10 = omega arith in
    decimal_digit n h ∙ ap (λ m. (48 + m) ∷ []) a

-- the text of a longer number
pub decimal_more : (n : ℕ) → 1000 ≤ n → n < 1000000 → decimal n ≡ decimal (n / 1000) ++ three_digits (n % 1000)
decimal_more n lo hi =
    let a : n / 10 / 10 / 10 ≡ n / 1000 = omega arith in
    let b : n / 10 / 10 % 10 ≡ n % 1000 / 100 % 10 = omega arith in
    let c : n / 10 % 10 ≡ n % 1000 / 10 % 10 = omega arith in
    let d : n % 10 ≡ n % 1000 % 10 = omega arith in
    decimal_step n (omega arith) (omega arith)
    ∙ ap (λ l. l ++ (48 + n % 10) ∷ []) (decimal_step (n / 10) (omega arith) (omega arith) ∙ ap (λ l. l ++ (48 + n / 10 % 10) ∷ []) (decimal_step (n / 10 / 10) (omega arith) (omega arith)))
    ∙ append_assoc (decimal (n / 10 / 10 / 10) ++ (48 + n / 10 / 10 % 10) ∷ []) ((48 + n / 10 % 10) ∷ []) ((48 + n % 10) ∷ [])
    ∙ append_assoc (decimal (n / 10 / 10 / 10)) ((48 + n / 10 / 10 % 10) ∷ []) ((48 + n / 10 % 10) ∷ (48 + n % 10) ∷ [])
    ∙ ap (λ m. decimal m ++ (48 + n / 10 / 10 % 10) ∷ (48 + n / 10 % 10) ∷ (48 + n % 10) ∷ []) a
    ∙ ap (λ m. decimal (n / 1000) ++ (48 + m) ∷ (48 + n / 10 % 10) ∷ (48 + n % 10) ∷ []) b
    ∙ ap (λ m. decimal (n / 1000) ++ (48 + n % 1000 / 100 % 10) ∷ (48 + m) ∷ (48 + n % 10) ∷ []) c
    ∙ ap (λ m. decimal (n / 1000) ++ (48 + n % 1000 / 100 % 10) ∷ (48 + n % 1000 / 10 % 10) ∷ (48 + m) ∷ []) d
