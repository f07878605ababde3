-- The fields of a row line, each read once.
use Rattle.std.proofs.Common.{◌≡◌, ℕ, ◌+◌, ◌<◌, ◌≤◌, Bool, true, false, cond, not, ◌&&◌, List, [], ◌∷◌, ◌++◌, length, take, drop, get_or, Some, None, Option, IfSome, refl, ap, sym, ◌∙◌, arith, inl, inr, one-add, append-nil, append_assoc}
use Rattle.std.specs.Borrow.{Bor}
use Rattle.std.specs.List.{list_all, prefix_len, slice_split, onto_first, position_or_len, before_first}
use Rattle.std.proofs.lemmas.List.{take-append-drop, length-append}
use Rattle.std.proofs.lemmas.List.Folds.{list_all-append}
use Rattle.std.proofs.lemmas.List.Splits.{length-slice_split}
use Rattle.std.proofs.lemmas.Bool.Decides.{nat_tests}
use Rattle.sql_text.specs.Blank.{is_blank, without_blanks_before, trimmed}
use Rattle.sql_text.specs.Word.{is_digit, is_word_byte, word_of, behind_word}
use Rattle.sql_text.specs.Value.{value_of, is_integer, integer_len}
use Rattle.sql_text.proofs.Fronts.{StopsFor, and_left, and_right, and_both, front_passes, stops_behind, all_weaker}
use Rattle.sql_text.proofs.LeadingValue.{flag, no_integer_no_value}
use Rattle.sql_text.proofs.Trimmed.{is_solid, is_no_blank, solid_no_blank, leading_solid, trimmed_parts, trimmed_between, behind_integer, integer_between}
use Rattle.sql_catalog.specs.Rows.{is_comma, fields_of}

abbrev is_no_comma : ℕ → Bool
is_no_comma b = not (is_comma b)

-- the first part of a text that is cut at commas
onto : (b : ℕ) (parts : List (List ℕ)) → 0 < length parts → get_or (onto_first b parts) 0 [] ≡ b ∷ get_or parts 0 []
onto b [] h = absurd (omega arith)
onto b (part ∷ parts) h = refl

head_part : (text : List ℕ) → get_or (slice_split is_comma text) 0 [] ≡ before_first is_comma text
head_part [] = refl
head_part (b ∷ bs) = by (is_comma b) (head_part bs)
  where
    by : (o : Bool) → get_or (slice_split is_comma bs) 0 [] ≡ before_first is_comma bs
        → get_or (cond o ([] ∷ slice_split is_comma bs) (onto_first b (slice_split is_comma bs))) 0 [] ≡ take (cond (not o) (1 + position_or_len is_comma bs) 0) (b ∷ bs)
    by true ih = refl
    by false ih =
        onto b (slice_split is_comma bs) (omega (arith, length-slice_split is_comma bs))
        ∙ ap (λ l. b ∷ l) ih
        ∙ sym (ap (λ n. take n (b ∷ bs)) (one-add (position_or_len is_comma bs)))

pub first_part : (text first : List ℕ) (others : List (List ℕ)) → slice_split is_comma text ≡ first ∷ others → first ≡ before_first is_comma text
first_part text first others e = sym (ap (λ (parts : List (List ℕ)). get_or parts 0 []) e) ∙ head_part text

passes_not : (b : ℕ) → is_no_comma b ≡ true → is_comma b ≡ false
passes_not b h = grind (arith, nat_tests)

-- the parts of a text that begins with no comma for a while
pub split_behind : (front rest first : List ℕ) (others : List (List ℕ)) → list_all is_no_comma front ≡ true → slice_split is_comma rest ≡ first ∷ others
    → slice_split is_comma (front ++ rest) ≡ (front ++ first) ∷ others
split_behind [] rest first others h e = e
split_behind (b ∷ front) rest first others h e =
    ap (λ o. cond o ([] ∷ slice_split is_comma (front ++ rest)) (onto_first b (slice_split is_comma (front ++ rest)))) (passes_not b (left h))
    ∙ ap (onto_first b) (split_behind front rest first others (right h) e)
  where
    left : (is_no_comma b && list_all is_no_comma front) ≡ true → is_no_comma b ≡ true
    left k = and_left (is_no_comma b) (list_all is_no_comma front) k

    right : (is_no_comma b && list_all is_no_comma front) ≡ true → list_all is_no_comma front ≡ true
    right k = and_right (is_no_comma b) (list_all is_no_comma front) k

blank_no_comma : (b : ℕ) → is_blank b ≡ true → is_no_comma b ≡ true
blank_no_comma b h = grind (arith, nat_tests)

solid_no_comma : (b : ℕ) → is_solid b ≡ true → is_no_comma b ≡ true
solid_no_comma b h = grind (arith, nat_tests)

word_no_comma : (b : ℕ) → is_word_byte b ≡ true → is_no_comma b ≡ true
word_no_comma b h = grind (arith, nat_tests)

-- the fields of a line are the parts behind the first comma that stands behind its word
pub fields_behind : (line behind first : List ℕ) (others : List (List ℕ)) → behind ≡ behind_word line → slice_split is_comma behind ≡ first ∷ others → fields_of line ≡ others
fields_behind line behind first others is_behind e =
    let word = word_of line in
    let whole : line ≡ word ++ behind = sym (take-append-drop (prefix_len is_word_byte line) line) ∙ ap (λ r. word ++ r) (sym is_behind) in
    ap fields_of whole ∙ ap (drop 1) (split_behind word behind first others (all_weaker is_word_byte is_no_comma word_no_comma word (front_passes is_word_byte line)) e)

-- blanks, the integer behind them, and the blanks behind it
abbrev number_at : List ℕ → List ℕ
number_at text = take (integer_len (without_blanks_before text)) (without_blanks_before text)

abbrev behind_number : List ℕ → List ℕ
behind_number text = drop (integer_len (without_blanks_before text)) (without_blanks_before text)

abbrev blanks_at : List ℕ → List ℕ
blanks_at text = take (prefix_len is_blank text) text

-- the parts of a text, where those behind the blanks at its front are known
pub blanks_split : (text first : List ℕ) (others : List (List ℕ)) → slice_split is_comma (without_blanks_before text) ≡ first ∷ others
    → slice_split is_comma text ≡ (blanks_at text ++ first) ∷ others
blanks_split text first others e =
    ap (slice_split is_comma) (sym (take-append-drop (prefix_len is_blank text) text))
    ∙ split_behind (blanks_at text) (without_blanks_before text) first others (all_weaker is_blank is_no_comma blank_no_comma (blanks_at text) (front_passes is_blank text)) e

abbrev front_of : List ℕ → List ℕ
front_of text = blanks_at text ++ (number_at text ++ blanks_at (behind_number text))

front_and_rest : (text : List ℕ) → front_of text ++ behind_integer text ≡ text
front_and_rest text =
    let a = blanks_at text in
    let n = number_at text in
    let b = blanks_at (behind_number text) in
    let r = behind_integer text in
    append_assoc a (n ++ b) r
    ∙ ap (λ l. a ++ l) (append_assoc n b r ∙ ap (λ l. n ++ l) (take-append-drop (prefix_len is_blank (behind_number text)) (behind_number text)) ∙ take-append-drop (integer_len (without_blanks_before text)) (without_blanks_before text))
    ∙ take-append-drop (prefix_len is_blank text) text

front_no_comma : (text : List ℕ) → list_all is_no_comma (front_of text) ≡ true
front_no_comma text =
    let a = blanks_at text in
    let n = number_at text in
    let b = blanks_at (behind_number text) in
    let blanks : (bs : List ℕ) → list_all is_no_comma (blanks_at bs) ≡ true = λ bs. all_weaker is_blank is_no_comma blank_no_comma (blanks_at bs) (front_passes is_blank bs) in
    let digits : list_all is_no_comma n ≡ true = all_weaker is_solid is_no_comma solid_no_comma n (leading_solid (without_blanks_before text)) in
    list_all-append is_no_comma a (n ++ b)
    ∙ and_both (list_all is_no_comma a) (list_all is_no_comma (n ++ b)) (blanks text)
    (list_all-append is_no_comma n b ∙ and_both (list_all is_no_comma n) (list_all is_no_comma b) digits (blanks (behind_number text)))

-- the parts of a text, where those behind its first integer are known
pub field_split : (text left : List ℕ) (others : List (List ℕ)) → slice_split is_comma (behind_integer text) ≡ left ∷ others → slice_split is_comma text ≡ (front_of text ++ left) ∷ others
field_split text left others e = ap (slice_split is_comma) (sym (front_and_rest text)) ∙ split_behind (front_of text) (behind_integer text) left others (front_no_comma text) e

pub field_parts : (text left : List ℕ) (others : List (List ℕ)) → slice_split is_comma (behind_integer text) ≡ left ∷ others → slice_split is_comma text ≡ before_first is_comma text ∷ others
field_parts text left others e =
    let all = field_split text left others e in
    all ∙ ap (λ first. first ∷ others) (first_part text (front_of text ++ left) others all)

-- a field that the integer and blanks fill
pub field_value : (text left : List ℕ) (others : List (List ℕ)) → slice_split is_comma (behind_integer text) ≡ left ∷ others → left ≡ []
    → value_of (number_at text) ≡ value_of (trimmed (before_first is_comma text))
field_value text left others e empty =
    let first : front_of text ≡ before_first is_comma text = sym (append-nil (front_of text)) ∙ ap (λ l. front_of text ++ l) (sym empty) ∙ first_part text (front_of text ++ left) others (field_split text left others e) in
    let inner : trimmed (front_of text) ≡ number_at text = trimmed_between (blanks_at text) (number_at text) (blanks_at (behind_number text)) (front_passes is_blank text)
    (all_weaker is_solid is_no_blank solid_no_blank (number_at text) (leading_solid (without_blanks_before text))) (front_passes is_blank (behind_number text)) in
    ap value_of (sym inner ∙ ap trimmed first)

comma_stops : (tail : List ℕ) → StopsFor is_no_comma tail → StopsFor is_blank tail × StopsFor is_digit tail × (before_first is_comma tail ≡ [])
comma_stops [] h = (tt, tt, refl)
comma_stops (b ∷ bs) h = (comma_no_blank b h, comma_no_digit b h, ap (λ o. take (cond o (1 + position_or_len is_comma bs) 0) (b ∷ bs)) h)
  where
    comma_no_blank : (b : ℕ) → is_no_comma b ≡ false → is_blank b ≡ false
    comma_no_blank b h = grind (arith, nat_tests)

    comma_no_digit : (b : ℕ) → is_no_comma b ≡ false → is_digit b ≡ false
    comma_no_digit b h = grind (arith, nat_tests)

-- an integer that fills a field between blanks is the one that was read
integer_field : (text : List ℕ) → is_integer (trimmed (before_first is_comma text)) ≡ true → before_first is_comma (behind_integer text) ≡ []
integer_field text h =
    let field = before_first is_comma text in
    let tail = drop (position_or_len is_comma text) text in
    let parts = trimmed_parts field in
    let stops = comma_stops tail (stops_behind is_no_comma text) in
    let whole : text ≡ parts.before ++ (trimmed field ++ (parts.behind ++ tail)) =
    sym (take-append-drop (position_or_len is_comma text) text)
    ∙ ap (λ l. l ++ tail) parts.whole
    ∙ append_assoc parts.before (trimmed field ++ parts.behind) tail
    ∙ ap (λ l. parts.before ++ l) (append_assoc (trimmed field) parts.behind tail) in
    ap (before_first is_comma) (ap behind_integer whole ∙ integer_between parts.before (trimmed field) parts.behind tail parts.blanks_before h parts.blanks_after stops.0 stops.1)
    ∙ stops.2

-- a field with anything else in it is no value
pub field_no_value : (text left : List ℕ) (others : List (List ℕ)) → slice_split is_comma (behind_integer text) ≡ left ∷ others → 0 < length left
    → value_of (trimmed (before_first is_comma text)) ≡ None
field_no_value text left others e some = elim (flag (is_integer (trimmed (before_first is_comma text)))) [
  | inl holds ↦ absurd (omega (arith, some, ap length (first_part (behind_integer text) left others e ∙ integer_field text holds)))
  | inr fails ↦ no_integer_no_value (trimmed (before_first is_comma text)) fails
]
