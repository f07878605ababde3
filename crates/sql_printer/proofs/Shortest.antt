-- The short form of a statement is no longer than any line that spells the statement.
use Rattle.std.proofs.Common.{◌≡◌, ℕ, zero, suc, ◌+◌, ◌-◌, ◌<◌, ◌≤◌, ◌⊎◌, inl, inr, Bool, true, false, cond, not, ◌&&◌, ◌||◌, List, [], ◌∷◌, ◌++◌, length, take, drop, get_or, flat_map, Option, Some, None, refl, ap, sym, ◌∙◌, arith, length-append, length-drop}
use Rattle.std.specs.Prelude.{slice_range}
use Rattle.std.specs.List.{list_any, list_all, AllByRecursion}
use Rattle.std.proofs.lemmas.Bool.{false≢true, cases_lt}
use Rattle.std.proofs.lemmas.List.{take_more, get_or-drop, length-take-le}
use Rattle.std.proofs.lemmas.List.Folds.{list_all-append}
use Rattle.sql_text.specs.Word.{is_letter, is_word, is_word_byte}
use Rattle.sql_text.specs.Key.{key_of}
use Rattle.sql_text.specs.Value.{is_integer, fits_i64}
use Rattle.sql_lexer.specs.declared.token.Token.{Token}
use Rattle.sql_lexer.specs.declared.token.TokenKind.{TokenKind}
use Rattle.sql_lexer.specs.declared.token.TokenKind.TheVariants.{Integer}
use Rattle.sql_lexer.specs.Tokens.{kind_of, word_kind, symbol_text}
use Rattle.sql_lexer.specs.Standing.{IsNextToken, StandFrom}
use Rattle.sql_lexer.proofs.Exactly as exactly
use Rattle.sql_parser.specs.Grammar.{Lexeme, word, number, key, comma, point, opening, closing, less, equal, greater, less_equal, greater_equal, unequal, semicolon, tokens_with, written}
use Rattle.sql_parser.specs.Limits.{number_in, is_wide}
use Rattle.sql_printer.specs.Printed.{text_for, is_any_word, goes_on, joins_short, gap_by, spaced_by}
use Rattle.sql_parser.specs.Syntax.{lexeme_of, lexemes}
use Rattle.sql_printer.specs.Laws.{ShortIsShortest}
use Rattle.sql_printer.proofs.CompactSize.{size_with}
use Rattle.sql_parser.proofs.Said.{or_right}
use Rattle.sql_printer.proofs.Spaced.{and_left, and_right}
use Rattle.sql_parser.proofs.Within.{all_fit, integers_spelled}
use Rattle.sql_printer.proofs.ShortApart.{short_behind, short_first}
use Rattle.sql_printer.proofs.TextSizes.{IsFit, lead, HasRoom, has_room, any_word}

word_more : (w : List ℕ) (b : ℕ) → is_word w ≡ true → is_word_byte b ≡ true → is_word (w ++ b ∷ []) ≡ true
word_more [] b h g = absurd (false≢true h)
word_more (c ∷ cs) b h g =
    ap (λ t. t && list_all is_word_byte (cs ++ b ∷ [])) (and_left (is_letter c) (list_all is_word_byte cs) h)
    ∙ list_all-append is_word_byte cs (b ∷ [])
    ∙ ap (λ t. t && (is_word_byte b && true)) (and_right (is_letter c) (list_all is_word_byte cs) h)
    ∙ ap (λ t. t && true) g

some_kind : (t : Bool) (x : TokenKind) (o : Option TokenKind) → t ≡ true → cond t (Some x) o ≡ None → ⊥
some_kind true x o h e = cc
some_kind false x o h e = absurd (false≢true h)

no_none : (v : List ℕ) → is_word v ≡ true → kind_of v ≡ None → ⊥
unfolding kind_of
no_none v h e = some_kind (is_word v) (word_kind (key_of v)) (cond (is_integer v) (Some Integer) (symbol_text v)) h e

-- a byte that a word goes on with cannot stand just behind it
glued : (line : List ℕ) (t : Token) → t.from < t.to → t.to < length line → is_word (slice_range line t.from t.to) ≡ true → is_word_byte (get_or line t.to 0) ≡ true → kind_of (slice_range line t.from (t.to + 1)) ≡ None → ⊥
glued line t some inside h g none =
    let n = t.to - t.from in
    let xs = drop t.from line in
    let m : t.to + 1 - t.from ≡ n + 1 = omega arith in
    let there : t.from + n ≡ t.to = omega arith in
    let long : n < length xs = omega (arith, length-drop t.from line) in
    let last : get_or xs n 0 ≡ get_or line t.to 0 = get_or-drop t.from line n 0 ∙ ap (λ k. get_or line k 0) there in
    let same : slice_range line t.from (t.to + 1) ≡ slice_range line t.from t.to ++ get_or line t.to 0 ∷ [] =
    ap (λ k. take k xs) m ∙ take_more xs n 0 long ∙ ap (λ b. take n xs ++ b ∷ []) last in
    let whole : is_word (slice_range line t.from (t.to + 1)) ≡ true = ap is_word same ∙ word_more (slice_range line t.from t.to) (get_or line t.to 0) h g in
    no_none (slice_range line t.from (t.to + 1)) whole none

gap_none : (l m : Lexeme) → is_any_word l ≡ false → length (gap_by joins_short l m) ≡ 0
gap_none l m h = ap (λ b. length {A = ℕ} (cond (not (b && goes_on m)) [] (32 ∷ []))) h

gap_of : (b : Bool) → length {A = ℕ} (cond (not b) [] (32 ∷ [])) ≡ cond {A = ℕ} b 1 0
gap_of true = refl
gap_of false = refl

gap_lead : (l m : Lexeme) → is_any_word l ≡ true → length (gap_by joins_short l m) ≡ lead m
gap_lead l m h = ap (λ b. length {A = ℕ} (cond (not (b && goes_on m)) [] (32 ∷ []))) h ∙ gap_of (goes_on m)

lead_most : (b : Bool) → cond {A = ℕ} b 1 0 ≤ 1
lead_most true = omega arith
lead_most false = omega arith

flag : (b : Bool) → (b ≡ true) ⊎ (b ≡ false)
flag true = inl refl
flag false = inr refl

slice_length : (line : List ℕ) (from to : ℕ) → from < to → to ≤ length line → length (slice_range line from to) ≡ to - from
slice_length line from to some inside = length-take-le (to - from) (drop from line) (omega (arith, length-drop from line))

-- the first byte of a text that is cut out of the line
first_byte : (line : List ℕ) (from to : ℕ) → from < to → get_or (slice_range line from to) 0 0 ≡ get_or line from 0
first_byte line from to some = first_of (to - from) (drop from line) (omega arith) ∙ get_or-drop from line 0 0 ∙ ap (λ k. get_or line k 0) (let e : from + 0 ≡ from = omega arith in e)
  where
    first_of : (n : ℕ) (xs : List ℕ) → 0 < n → get_or (take n xs) 0 0 ≡ get_or xs 0 0
    first_of zero xs h = absurd (omega arith)
    first_of (suc n) [] h = refl
    first_of (suc n) (x ∷ xs) h = refl

-- what stands from the end of a token up to the end of the next has room for the gap and the text of the next
step_room : (line : List ℕ) (place : ℕ) (t u : Token) → IsNextToken line place t → IsNextToken line t.to u → IsFit (lexeme_of line u) → t.to + (length (gap_by joins_short (lexeme_of line t) (lexeme_of line u)) + length (text_for (lexeme_of line u))) ≤ u.to
step_room line place t u p n fit =
    let l = lexeme_of line t in
    let m = lexeme_of line u in
    let w = slice_range line u.from u.to in
    let long : length w ≡ u.to - u.from = slice_length line u.from u.to n.has_bytes n.inside in
    let before : length (slice_range line t.from t.to) ≡ t.to - t.from = slice_length line t.from t.to p.has_bytes p.inside in
    let some : 0 < length w = omega (arith, long, n.has_bytes) in
    let first : 0 < length (slice_range line t.from t.to) = omega (arith, before, p.has_bytes) in
    let behind : t.to ≤ u.from = n.behind in
    let bytes : u.from < u.to = n.has_bytes in
    elim (flag (is_any_word l)) [
      | inr none ↦ elim (has_room u.kind w some n.kind fit) [
        | inl r ↦ omega (arith, long, behind, bytes, gap_none l m none, r.1)
        | inr r ↦ omega (arith, long, behind, bytes, gap_none l m none, r)
      ]
      | inl is ↦ elim (has_room u.kind w some n.kind fit) [
        | inl r ↦ elim (cases_lt t.to u.from) [
          | inl apart ↦ omega (arith, long, apart, bytes, gap_lead l m is, lead_most (goes_on m), r.1)
          | inr close ↦ absurd (glued line t p.has_bytes (omega (arith, behind, close, bytes, n.inside)) (any_word t.kind (slice_range line t.from t.to) first p.kind is)
              (ap (λ k. is_word_byte (get_or line k 0)) (let e : t.to ≡ u.from = omega (arith, behind, close) in e) ∙ ap is_word_byte (sym (first_byte line u.from u.to bytes)) ∙ r.0)
              (p.longest (t.to + 1) (omega arith) (omega (arith, behind, close, bytes, n.inside))))
        ]
        | inr r ↦ omega (arith, long, behind, bytes, gap_lead l m is, r)
      ]
    ]

rest_room : (line : List ℕ) (place : ℕ) (t : Token) (ts : List Token) → IsNextToken line place t → StandFrom line t.to ts → AllByRecursion IsFit (lexemes line ts) → t.to + length (short_behind (lexeme_of line t) (lexemes line ts)) ≤ length line
rest_room line place t [] p s fit = omega (arith, p.inside)
rest_room line place t (u ∷ us) p s fit =
    let l = lexeme_of line t in
    let m = lexeme_of line u in
    let ms = lexemes line us in
    let one = step_room line place t u p s.0 fit.0 in
    let others = rest_room line t.to u us s.0 s.1 fit.1 in
    let a : length (gap_by joins_short l m ++ spaced_by joins_short (m ∷ ms)) ≡ length (gap_by joins_short l m) + length (spaced_by joins_short (m ∷ ms)) = length-append (gap_by joins_short l m) (spaced_by joins_short (m ∷ ms)) in
    let b : length (spaced_by joins_short (m ∷ ms)) ≡ length (text_for m) + length (short_behind m ms) = ap length (short_first m ms) ∙ length-append (text_for m) (short_behind m ms) in
    omega (arith, one, others, a, b)

whole_room : (line : List ℕ) (ts : List Token) → StandFrom line 0 ts → AllByRecursion IsFit (lexemes line ts) → length (spaced_by joins_short (lexemes line ts)) ≤ length line
whole_room line [] s fit = omega arith
whole_room line (t ∷ ts) s fit =
    let m = lexeme_of line t in
    let ms = lexemes line ts in
    let n = s.0 in
    let w = slice_range line t.from t.to in
    let long : length w ≡ t.to - t.from = slice_length line t.from t.to n.has_bytes n.inside in
    let some : 0 < length w = omega (arith, long, n.has_bytes) in
    let text : length (text_for m) ≤ length w = text_room m w (has_room t.kind w some n.kind fit.0) in
    let b : length (spaced_by joins_short (m ∷ ms)) ≡ length (text_for m) + length (short_behind m ms) = ap length (short_first m ms) ∙ length-append (text_for m) (short_behind m ms) in
    omega (arith, long, text, b, rest_room line 0 t ts n s.1 fit.1, n.has_bytes)
  where
    text_room : (m : Lexeme) (w : List ℕ) → HasRoom m w → length (text_for m) ≤ length w
    text_room m w (inl r) = r.1
    text_room m w (inr r) = omega (arith, r)

-- a token more makes the short form no shorter
front_room : (ls : List Lexeme) (m : Lexeme) → length (spaced_by joins_short ls) ≤ length (spaced_by joins_short (ls ++ m ∷ []))
front_room [] m = omega arith
front_room (l ∷ []) m = omega (arith, length-append (text_for l) (gap_by joins_short l m ++ text_for m))
front_room (l ∷ x ∷ ls) m =
    let g = gap_by joins_short l x in
    let a = spaced_by joins_short (x ∷ ls) in
    let b = spaced_by joins_short ((x ∷ ls) ++ m ∷ []) in
    omega (arith, front_room (x ∷ ls) m, length-append (text_for l) (g ++ a), length-append g a, length-append (text_for l) (g ++ b), length-append g b)

or_left : (a b : Bool) → (a || b) ≡ false → a ≡ false
or_left true b h = cc
or_left false b h = refl

is_fit : (b : Bool) → not b ≡ false → b ≡ true
is_fit true h = refl
is_fit false h = let e : true ≡ false = h in cc

all_are_fit : (ls : List Lexeme) → list_any is_wide (flat_map number_in ls) ≡ false → AllByRecursion IsFit ls
all_are_fit [] z = tt
all_are_fit (number k ∷ ls) z = (is_fit (fits_i64 k) (or_left (is_wide k) _ z), all_are_fit ls (or_right (is_wide k) _ z))
all_are_fit (word w ∷ ls) z = (tt, all_are_fit ls z)
all_are_fit (key k ∷ ls) z = (tt, all_are_fit ls z)
all_are_fit (comma ∷ ls) z = (tt, all_are_fit ls z)
all_are_fit (point ∷ ls) z = (tt, all_are_fit ls z)
all_are_fit (opening ∷ ls) z = (tt, all_are_fit ls z)
all_are_fit (closing ∷ ls) z = (tt, all_are_fit ls z)
all_are_fit (less ∷ ls) z = (tt, all_are_fit ls z)
all_are_fit (equal ∷ ls) z = (tt, all_are_fit ls z)
all_are_fit (greater ∷ ls) z = (tt, all_are_fit ls z)
all_are_fit (less_equal ∷ ls) z = (tt, all_are_fit ls z)
all_are_fit (greater_equal ∷ ls) z = (tt, all_are_fit ls z)
all_are_fit (unequal ∷ ls) z = (tt, all_are_fit ls z)
all_are_fit (semicolon ∷ ls) z = (tt, all_are_fit ls z)

pub short_is_shortest : ShortIsShortest
short_is_shortest line s is within =
    let ts = is.its_tokens in
    let stand = (exactly.standing_is_found line ts).0 is.lexed in
    let fit = all_are_fit (lexemes line ts) (ap (list_any is_wide) (integers_spelled (lexemes line ts) s is.spelled) ∙ all_fit s within) in
    let whole = whole_room line ts stand fit in
    let w = is.spelled.1 in
    let same = size_with w s is.spelled.2 in
    elim is.spelled.3 [
      | inl e ↦ omega (arith, whole, same, ap (λ ls. length (spaced_by joins_short ls)) e)
      | inr e ↦ omega (arith, whole, same, ap (λ ls. length (spaced_by joins_short ls)) e, front_room (tokens_with (written w) s) semicolon)
    ]
