-- A row line is one word, blanks or none, and a comma, with anything behind.
use Rattle.std.proofs.Common.{◌≡◌, ◌==◌, ℕ, suc, ◌+◌, Bool, true, false, cond, ◌&&◌, ◌||◌, List, [], ◌∷◌, ◌++◌, length, take, drop, refl, ap, sym, ◌∙◌, arith, nat_le, one-add}
use Rattle.std.specs.List.{list_all, prefix_len}
use Rattle.std.proofs.lemmas.Bool.Decides.{nat_tests}
use Rattle.std.proofs.lemmas.List.{take-append-drop, drop_at}
use Rattle.std.proofs.lemmas.List.Sums.{prefix_len-le-length}
use Rattle.sql_text.specs.Blank.{is_blank, without_blanks_before}
use Rattle.sql_text.specs.Word.{is_letter, is_digit, is_word, is_word_byte, behind_word}
use Rattle.sql_lexer.proofs.Longest.{all_take}
use Rattle.sql_catalog.specs.Rows.{begins_comma, IsRowText}
use Rattle.sql_parser.specs.LineKind.{is_row}
use Rattle.sql_parser.specs.Laws.{RowsAreRows}
use Rattle.sql_parser.proofs.Prefixes.{StopsFor, prefix_stops, and_left, and_right}

le_same : (m : ℕ) → nat_le m m ≡ true
le_same m = grind (arith, nat_tests)

front_passes : (p : ℕ → Bool) (bs : List ℕ) → list_all p (take (prefix_len p bs) bs) ≡ true
front_passes p bs = all_take p (prefix_len p bs) bs (prefix_len-le-length p bs) ∙ le_same (prefix_len p bs)

letter_part : (b : ℕ) → is_letter b ≡ true → is_word_byte b ≡ true
letter_part b h = ap (λ t. t || is_digit b) h

word_front : (b : ℕ) (bs : List ℕ) → is_letter b ≡ true → is_word (take (prefix_len is_word_byte (b ∷ bs)) (b ∷ bs)) ≡ true
word_front b bs h =
    let k = prefix_len is_word_byte bs in
    let n : prefix_len is_word_byte (b ∷ bs) ≡ suc k = ap (λ t. cond t (1 + k) 0) (letter_part b h) ∙ one-add k in
    ap (λ m. is_word (take m (b ∷ bs))) n ∙ ap (λ t. t && list_all is_word_byte (take k bs)) h ∙ front_passes is_word_byte bs

eq_from : (b c : ℕ) → (c == b) ≡ true → c ≡ b
eq_from b c h = grind (arith, nat_tests)

comma_first : (bs : List ℕ) → begins_comma bs ≡ true → bs ≡ 44 ∷ drop 1 bs
comma_first [] h = cc
comma_first (c ∷ bs) h = ap (λ x. x ∷ bs) (eq_from 44 c h)

row_text : (bs : List ℕ) → is_row bs ≡ true → IsRowText bs
row_text [] h = cc
row_text (b ∷ bs) h =
    let all = b ∷ bs in
    let rest = behind_word all in
    let last = without_blanks_before rest in
    let n = prefix_len is_word_byte all in
    let m = prefix_len is_blank rest in
    let comma = comma_first last (and_right (is_letter b) (begins_comma last) h) in (
      take n all,
      take m rest,
      drop 1 last,
      sym (take-append-drop n all) ∙ ap (λ r. take n all ++ r) (sym (take-append-drop m rest) ∙ ap (λ r. take m rest ++ r) comma),
      word_front b bs (and_left (is_letter b) (begins_comma last) h),
      front_passes is_blank rest,
    )

blank_no_word : (b : ℕ) → is_blank b ≡ true → is_word_byte b ≡ false
blank_no_word b h = grind (arith, nat_tests)

word_stops : (blanks rest : List ℕ) → list_all is_blank blanks ≡ true → StopsFor is_word_byte (blanks ++ 44 ∷ rest)
word_stops [] rest h = refl
word_stops (b ∷ blanks) rest h = blank_no_word b (and_left (is_blank b) (list_all is_blank blanks) h)

row_by : (word blanks rest : List ℕ) → is_word word ≡ true → list_all is_blank blanks ≡ true → is_row (word ++ (blanks ++ 44 ∷ rest)) ≡ true
row_by [] blanks rest w h = cc
row_by (b ∷ bs) blanks rest w h =
    let word = b ∷ bs in
    let behind = blanks ++ 44 ∷ rest in
    let letter = and_left (is_letter b) (list_all is_word_byte bs) w in
    let all : list_all is_word_byte word ≡ true = ap (λ t. t && list_all is_word_byte bs) (letter_part b letter) ∙ and_right (is_letter b) (list_all is_word_byte bs) w in
    let n : prefix_len is_word_byte (word ++ behind) ≡ length word = prefix_stops is_word_byte word behind all (word_stops blanks rest h) in
    let m : prefix_len is_blank behind ≡ length blanks = prefix_stops is_blank blanks (44 ∷ rest) h refl in
    let after : behind_word (word ++ behind) ≡ behind = ap (λ k. drop k (word ++ behind)) n ∙ drop_at word behind (length word) refl in
    let last : without_blanks_before behind ≡ 44 ∷ rest = ap (λ k. drop k behind) m ∙ drop_at blanks (44 ∷ rest) (length blanks) refl in
    ap (λ t. t && begins_comma (without_blanks_before (behind_word (word ++ behind)))) letter
    ∙ ap (λ r. begins_comma (without_blanks_before r)) after
    ∙ ap begins_comma last

row_again : (bs : List ℕ) → IsRowText bs → is_row bs ≡ true
row_again bs (word, blanks, rest, e, w, h) = ap is_row e ∙ row_by word blanks rest w h

pub rows_are_rows : RowsAreRows
rows_are_rows bs = (row_text bs, row_again bs)
