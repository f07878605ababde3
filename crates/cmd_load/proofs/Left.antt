-- The lines that are left of a script, where those before the rows were given.
use Rattle.std.proofs.Common.{zero, length, refl, ◌≡◌, ℕ, suc, ◌+◌, ◌-◌, ◌<◌, ◌≤◌, [], ◌∷◌, ◌++◌, drop, ap, sym, ◌∙◌, arith}
use Rattle.cmd_load.specs.Script.{step, number_at, row, rows_from, head_lines, script_lines}

no_heads : (heads : ℕ) → heads ≤ 4 → 4 ≤ heads → drop heads head_lines ≡ []
unfolding head_lines
no_heads heads most all =
    let n : heads ≡ 4 = omega arith in
    ap (λ h. drop h head_lines) n

-- all rows were given too
pub none_left : (heads given rows : ℕ) → heads ≤ 4 → 4 ≤ heads → given ≡ rows → drop heads head_lines ++ rows_from (given + 1) (rows - given) ≡ []
none_left heads given rows most all same =
    let n : rows - given ≡ 0 = omega (arith, same) in
    ap (λ l. l ++ rows_from (given + 1) (rows - given)) (no_heads heads most all) ∙ ap (rows_from (given + 1)) n

-- the first row that is left
pub row_left : (heads given rows x : ℕ) → heads ≤ 4 → 4 ≤ heads → given < rows → x ≡ step (number_at given)
    → drop heads head_lines ++ rows_from (given + 1) (rows - given) ≡ row x ∷ (drop heads head_lines ++ rows_from (given + 1 + 1) (rows - (given + 1)))
row_left heads given rows x most all more same =
    let n : rows - given ≡ suc (rows - (given + 1)) = omega (arith, more) in
    let none = no_heads heads most all in
    let i : given + 1 ≡ suc given = omega arith in
    let here : row (number_at (given + 1)) ≡ row x = ap (λ k. row (number_at k)) i ∙ ap row (sym same) in
    ap (λ l. l ++ rows_from (given + 1) (rows - given)) none ∙ ap (rows_from (given + 1)) n
    ∙ ap (λ r. r ∷ rows_from (given + 1 + 1) (rows - (given + 1))) here
    ∙ ap (λ l. row x ∷ (l ++ rows_from (given + 1 + 1) (rows - (given + 1)))) (sym none)

length_rows : (i n : ℕ) → length (rows_from i n) ≡ n
length_rows i zero = refl
length_rows i (suc n) = ap suc (length_rows (i + 1) n)

-- four lines before the rows
pub length_script : (n : ℕ) → length (script_lines n) ≡ n + 4
unfolding head_lines
length_script n = omega (arith, length_rows 1 n)
