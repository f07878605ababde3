-- No line of a script has an LF, so its text is cut into these lines again.
use Rattle.std.proofs.Common.{◌≡◌, ℕ, zero, suc, ◌+◌, ◌/◌, ◌%◌, ◌^◌, ◌<◌, Bool, true, false, not, cond, nat_lt, List, [], ◌∷◌, ◌++◌, codes, decimal, refl, ap, sym, ◌∙◌, append_assoc, arith}
use Rattle.std.specs.List.{flat_map, list_all, slice_split, onto_first}
use Rattle.std.proofs.lemmas.Bool.Decides.{nat_tests}
use Rattle.std.proofs.lemmas.Fmt.{digits_decimal}
use Rattle.std.proofs.lemmas.List.Folds.{list_all-append}
use Rattle.std.proofs.lemmas.List.Splits.{slice_split-cons_no}
use Rattle.std.proofs.lemmas.Nat.{mod_below}
use Rattle.sql_text.specs.Lines.{lines, is_line_feed}
use Rattle.sql_text.specs.Word.{is_digit}
use Rattle.sql_text.proofs.Cuts.{lines-some}
use Rattle.sql_text.proofs.Fronts.{and_left, and_right, and_both, all_weaker}
use Rattle.sql_text.proofs.ParsedValue.{own}
use Rattle.cmd_load.specs.Script.{field, row, number_at, rows_from, head_lines, script_lines}
use Rattle.cmd_load.specs.Laws.{HasItsLines}

-- a byte that ends no line
abbrev is_inside : ℕ → Bool
is_inside b = not (is_line_feed b)

abbrev is_plain : List ℕ → Bool
is_plain line = list_all is_inside line

flip : (b : Bool) → not b ≡ true → b ≡ false
flip true h = sym h
flip false h = refl

-- a line, and what stands behind its LF
split_line : (line rest : List ℕ) → is_plain line ≡ true → slice_split is_line_feed (line ++ 10 ∷ rest) ≡ line ∷ slice_split is_line_feed rest
split_line [] rest plain = refl
split_line (b ∷ line) rest plain =
    slice_split-cons_no is_line_feed b (line ++ 10 ∷ rest) (flip (is_line_feed b) (and_left (is_inside b) (is_plain line) plain))
    ∙ ap (onto_first b) (split_line line rest (and_right (is_inside b) (is_plain line) plain))

-- lines without LF, from their text
lines_of_text : (texts : List (List ℕ)) → list_all is_plain texts ≡ true → lines (flat_map (λ line. line ++ 10 ∷ []) texts) ≡ texts
lines_of_text [] plain = refl
lines_of_text (line ∷ texts) plain =
    let rest = flat_map (λ line. line ++ 10 ∷ []) texts in
    ap lines (append_assoc line (10 ∷ []) rest)
    ∙ lines-some (line ++ 10 ∷ rest) line rest (split_line line rest (and_left (is_plain line) (list_all is_plain texts) plain))
    ∙ ap (λ l. line ∷ l) (lines_of_text texts (and_right (is_plain line) (list_all is_plain texts) plain))

digit_inside : (b : ℕ) → is_digit b ≡ true → is_inside b ≡ true
digit_inside b h = grind (arith, nat_tests)

field_plain : (n : ℕ) → n < 2 ^ 64 → is_plain (field n) ≡ true
field_plain n small = all_weaker is_digit is_inside digit_inside (decimal n) (digits_decimal own n small)

both_plain : (front rest : List ℕ) → is_plain front ≡ true → is_plain rest ≡ true → is_plain (front ++ rest) ≡ true
both_plain front rest h k = list_all-append is_inside front rest ∙ and_both (is_plain front) (is_plain rest) h k

either_plain : (b : Bool) (one other : List ℕ) → is_plain one ≡ true → is_plain other ≡ true → is_plain (cond b one other) ≡ true
either_plain true one other h k = h
either_plain false one other h k = k

row_plain : (x : ℕ) → is_plain (row x) ≡ true
unfolding row
row_plain x =
    let high : is_plain (field (x / 2 ^ 32 % 1000)) ≡ true = field_plain (x / 2 ^ 32 % 1000) (omega (arith, mod_below (x / 2 ^ 32) 1000 (omega arith))) in
    let low : is_plain (field (x / 2 ^ 16 % 65536)) ≡ true = field_plain (x / 2 ^ 16 % 65536) (omega (arith, mod_below (x / 2 ^ 16) 65536 (omega arith))) in
    let short = both_plain (codes "T") (field (x / 2 ^ 32 % 1000)) refl high in
    let long = both_plain (codes "S" ++ field (x / 2 ^ 32 % 1000)) (field (x / 2 ^ 16 % 65536)) (both_plain (codes "S") (field (x / 2 ^ 32 % 1000)) refl high) low in
    either_plain (nat_lt x (2 ^ 63)) (codes "T" ++ field (x / 2 ^ 32 % 1000)) (codes "S" ++ field (x / 2 ^ 32 % 1000) ++ field (x / 2 ^ 16 % 65536)) short long

rows_plain : (i n : ℕ) → list_all is_plain (rows_from i n) ≡ true
rows_plain i zero = refl
rows_plain i (suc n) = and_both (is_plain (row (number_at i))) (list_all is_plain (rows_from (i + 1) n)) (row_plain (number_at i)) (rows_plain (i + 1) n)

heads_plain : list_all is_plain head_lines ≡ true
unfolding head_lines
heads_plain = refl

pub has_its_lines : HasItsLines
has_its_lines n =
    lines_of_text (script_lines n) (list_all-append is_plain head_lines (rows_from 1 n) ∙ and_both (list_all is_plain head_lines) (list_all is_plain (rows_from 1 n)) heads_plain (rows_plain 1 n))
