-- The longest token at the front of a text, by its first byte.
use Rattle.std.proofs.Common.{◌≡◌, ◌≢◌, ℕ, zero, suc, ◌+◌, ◌<◌, ◌≤◌, Bool, true, false, cond, ◌&&◌, ◌||◌, List, [], ◌∷◌, length, take, Option, Some, None, refl, subst, ap, sym, ◌∙◌, arith, nat_lt, lt-ltb, inl, inr, ◌⊎◌, get_or, drop, one-add, add-one, lit<, IfSome}
use Rattle.std.specs.Prelude.{nat_le, ◌==◌}
use Rattle.std.specs.List.{list_all, prefix_len}
use Rattle.std.proofs.lemmas.Bool.{cases_eq}
use Rattle.std.proofs.lemmas.Bool.Decides.{nat_tests}
use Rattle.std.proofs.lemmas.List.Sums.{prefix_len-le-length}
use Rattle.std.proofs.lemmas.List.{length-take-le}
use Rattle.sql_text.specs.Word.{is_digit, is_letter, is_word_byte}
use Rattle.sql_text.specs.Key.{key_of}
use Rattle.sql_text.specs.Value.{is_integer, is_digits}
use Rattle.sql_lexer.specs.declared.token.TokenKind.{TokenKind}
use Rattle.sql_lexer.specs.declared.token.TokenKind.TheVariants.{Integer, Less, Greater}
use Rattle.sql_lexer.specs.Tokens.{kind_of, word_kind, symbol_of, symbol_pair, symbol_text, front_pair, longest, longest_within, or_shorter}

-- n is the length of the longest token where no longer front is one
pub found_within : (bytes : List ℕ) (kind : TokenKind) (n k : ℕ) → 0 < n → n ≤ k → kind_of (take n bytes) ≡ Some kind → ((m : ℕ) → n < m → m ≤ k → kind_of (take m bytes) ≡ None) → longest_within k bytes ≡ Some (kind, n)
found_within bytes kind n zero p l e none = absurd (omega arith)
found_within bytes kind n (suc k) p l e none = elim (cases_eq n (suc k)) [
  | inl same ↦ rw (← same) (ap (λ o. or_shorter o n (longest_within k bytes)) e)
  | inr other ↦ ap (λ o. or_shorter o (suc k) (longest_within k bytes)) (none (suc k) (omega arith) (omega arith)) ∙ found_within bytes kind n k p (omega arith) e (λ m a b. none m a (omega arith))
]

pub none_within : (bytes : List ℕ) (k : ℕ) → ((m : ℕ) → 0 < m → m ≤ k → kind_of (take m bytes) ≡ None) → longest_within k bytes ≡ None
none_within bytes zero none = refl
none_within bytes (suc k) none = ap (λ o. or_shorter o (suc k) (longest_within k bytes)) (none (suc k) (omega arith) (omega arith)) ∙ none_within bytes k (λ m a b. none m a (omega arith))

all_step : (t : Bool) (m k : ℕ) → (t && nat_le m k) ≡ nat_le (suc m) (cond t (1 + k) 0)
all_step true m k = grind (arith, nat_tests)
all_step false m k = grind (arith, nat_tests)

-- a front passes the test where it is no longer than the longest front that does
pub all_take : (p : ℕ → Bool) (m : ℕ) (bs : List ℕ) → m ≤ length bs → list_all p (take m bs) ≡ nat_le m (prefix_len p bs)
all_take p zero bs h = grind (arith, nat_tests)
all_take p (suc m) [] h = absurd (omega arith)
all_take p (suc m) (b ∷ bs) h = ap (λ t. p b && t) (all_take p m bs (omega arith)) ∙ all_step (p b) m (prefix_len p bs)

le_yes : (m k : ℕ) → m ≤ k → nat_le m k ≡ true
le_yes m k h = grind (arith, nat_tests)

le_no : (m k : ℕ) → k < m → nat_le m k ≡ false
le_no m k h = grind (arith, nat_tests)

longer : (b : ℕ) (bs : List ℕ) (p : ℕ → Bool) (kind : List ℕ → TokenKind) → ((rest : List ℕ) → kind_of (b ∷ rest) ≡ cond (list_all p rest) (Some (kind (b ∷ rest))) None) → (m : ℕ) → suc (prefix_len p bs) < m → m ≤ suc (length bs) → kind_of (take m (b ∷ bs)) ≡ None
longer b bs p kind by zero low high = absurd (omega arith)
longer b bs p kind by (suc m) low high = by (take m bs) ∙ ap (λ t. cond t (Some (kind (b ∷ take m bs))) None) (all_take p m bs (omega arith) ∙ le_no m (prefix_len p bs) (omega arith))

-- where the bytes behind the first tell by a test of each whether the text is a token
pub longest_by : (b : ℕ) (bs : List ℕ) (p : ℕ → Bool) (kind : List ℕ → TokenKind) → ((rest : List ℕ) → kind_of (b ∷ rest) ≡ cond (list_all p rest) (Some (kind (b ∷ rest))) None) → longest (b ∷ bs) ≡ Some (kind (b ∷ take (prefix_len p bs) bs), suc (prefix_len p bs))
unfolding longest
longest_by b bs p kind by =
    let k = prefix_len p bs in
    found_within (b ∷ bs) (kind (b ∷ take k bs)) (suc k) (suc (length bs)) (omega arith) (omega (arith, prefix_len-le-length p bs))
    (by (take k bs) ∙ ap (λ t. cond t (Some (kind (b ∷ take k bs))) None) (all_take p k bs (prefix_len-le-length p bs) ∙ le_yes k k (omega arith)))
    (longer b bs p kind by)

-- a byte that is no symbol
symbol_none : (b : ℕ) → ((b == 44) ≡ false) → ((b == 46) ≡ false) → ((b == 40) ≡ false) → ((b == 41) ≡ false) → ((b == 60) ≡ false) → ((b == 61) ≡ false) → ((b == 62) ≡ false) → ((b == 59) ≡ false) → symbol_of b ≡ None
symbol_none b h1 h2 h3 h4 h5 h6 h7 h8 = simp (h1, h2, h3, h4, h5, h6, h7, h8)

-- b is a letter, as numbers tell
letter_range : (b : ℕ) → is_letter b ≡ true → ((65 ≤ b) × (b ≤ 90)) ⊎ (((97 ≤ b) × (b ≤ 122)) ⊎ (b ≡ 95))
letter_range b h = grind (arith, nat_tests)

letter_above : (b : ℕ) → is_letter b ≡ true → 65 ≤ b
letter_above b h = elim (letter_range b h) [ inl r ↦ r.0 | inr s ↦ elim s [ inl r ↦ omega arith | inr e ↦ omega arith ] ]

digit_range : (b : ℕ) → is_digit b ≡ true → (48 ≤ b) × (b ≤ 57)
digit_range b h = (grind (arith, nat_tests), grind (arith, nat_tests))

not_digit : (b : ℕ) → 58 ≤ b → is_digit b ≡ false
not_digit b h = grind (arith, nat_tests)

not_same : (a b : ℕ) → a ≢ b → (a == b) ≡ false
not_same a b h = grind (arith, nat_tests)

not_letter : (b : ℕ) → b ≤ 64 → is_letter b ≡ false
not_letter b h = grind (arith, nat_tests)

-- a byte that is no symbol begins none
pair_none : (b c : ℕ) → b ≢ 60 → b ≢ 62 → symbol_pair b c ≡ None
pair_none b c less greater =
    let l : (b == 60) ≡ false = not_same b 60 less in
    let g : (b == 62) ≡ false = not_same b 62 greater in
    simp (l, g)

pub symbol_text_none : (b : ℕ) (rest : List ℕ) → symbol_of b ≡ None → symbol_text (b ∷ rest) ≡ None
symbol_text_none b [] h = h
symbol_text_none b (c ∷ []) h =
    let P : ℕ → Type 0 = λ n. symbol_of n ≡ None in
    pair_none b c (λ e. let none : Some Less ≡ None = subst P e h in cc) (λ e. let none : Some Greater ≡ None = subst P e h in cc)
symbol_text_none b (c ∷ d ∷ rest) h = refl

-- bytes from 63 on, and digits, are no symbols
high_no_symbol : (b : ℕ) → 63 ≤ b → symbol_of b ≡ None
high_no_symbol b h = symbol_none b (not_same b 44 (omega arith)) (not_same b 46 (omega arith)) (not_same b 40 (omega arith)) (not_same b 41 (omega arith)) (not_same b 60 (omega arith)) (not_same b 61 (omega arith)) (not_same b 62 (omega arith)) (not_same b 59 (omega arith))

digit_no_symbol : (b : ℕ) → 48 ≤ b → b ≤ 57 → symbol_of b ≡ None
digit_no_symbol b h l = symbol_none b (not_same b 44 (omega arith)) (not_same b 46 (omega arith)) (not_same b 40 (omega arith)) (not_same b 41 (omega arith)) (not_same b 60 (omega arith)) (not_same b 61 (omega arith)) (not_same b 62 (omega arith)) (not_same b 59 (omega arith))

longer_than_none : (n : ℕ) → nat_lt 0 (suc n) ≡ true
longer_than_none n = grind (arith, nat_tests)

-- a text with no sign in front
unsigned : (b : ℕ) (rest : List ℕ) → (b == 43) ≡ false → (b == 45) ≡ false → is_integer (b ∷ rest) ≡ (is_digit b && list_all is_digit rest)
unsigned b rest p m = ap (λ t. cond t (is_digits rest) (cond (b == 45) (is_digits rest) (is_digits (b ∷ rest)))) p ∙ ap (λ t. cond t (is_digits rest) (is_digits (b ∷ rest))) m ∙ ap (λ t. t && (is_digit b && list_all is_digit rest)) (longer_than_none (length rest))

-- a text that begins with a letter
letter_kind : (b : ℕ) → is_letter b ≡ true → (rest : List ℕ) → kind_of (b ∷ rest) ≡ cond (list_all is_word_byte rest) (Some (word_kind (key_of (b ∷ rest)))) None
unfolding kind_of
letter_kind b h rest =
    let above = letter_above b h in
    ap (λ t. cond (t && list_all is_word_byte rest) (Some (word_kind (key_of (b ∷ rest)))) (cond (is_integer (b ∷ rest)) (Some Integer) (symbol_text (b ∷ rest)))) h
    ∙ ap (λ t. cond (list_all is_word_byte rest) (Some (word_kind (key_of (b ∷ rest)))) (cond t (Some Integer) (symbol_text (b ∷ rest)))) (unsigned b rest (not_same b 43 (omega arith)) (not_same b 45 (omega arith)) ∙ ap (λ t. t && list_all is_digit rest) (not_digit b (omega arith)))
    ∙ ap (λ o. cond (list_all is_word_byte rest) (Some (word_kind (key_of (b ∷ rest)))) o) (symbol_text_none b rest (high_no_symbol b (omega arith)))

-- a text that begins with no letter
not_word : (b : ℕ) (rest : List ℕ) → is_letter b ≡ false → kind_of (b ∷ rest) ≡ cond (is_integer (b ∷ rest)) (Some Integer) (symbol_text (b ∷ rest))
unfolding kind_of
not_word b rest h = ap (λ t. cond (t && list_all is_word_byte rest) (Some (word_kind (key_of (b ∷ rest)))) (cond (is_integer (b ∷ rest)) (Some Integer) (symbol_text (b ∷ rest)))) h

-- a text that begins with a digit
digit_kind : (b : ℕ) → is_digit b ≡ true → (rest : List ℕ) → kind_of (b ∷ rest) ≡ cond (list_all is_digit rest) (Some Integer) None
digit_kind b h rest =
    let r = digit_range b h in
    not_word b rest (not_letter b (omega arith))
    ∙ ap (λ t. cond t (Some Integer) (symbol_text (b ∷ rest))) (unsigned b rest (not_same b 43 (omega arith)) (not_same b 45 (omega arith)) ∙ ap (λ t. t && list_all is_digit rest) h)
    ∙ ap (λ o. cond (list_all is_digit rest) (Some Integer) o) (symbol_text_none b rest (digit_no_symbol b r.0 r.1))

-- a text that begins with a sign
sign_kind : (b : ℕ) → (b ≡ 43) ⊎ (b ≡ 45) → (rest : List ℕ) → kind_of (b ∷ rest) ≡ cond (is_digits rest) (Some Integer) None
sign_kind b h rest = elim h [
  | inl e ↦ rw e (not_word 43 rest refl ∙ ap (λ o. cond (is_digits rest) (Some Integer) o) (symbol_text_none 43 rest refl))
  | inr e ↦ rw e (not_word 45 rest refl ∙ ap (λ o. cond (is_digits rest) (Some Integer) o) (symbol_text_none 45 rest refl))
]

-- a text that begins with another byte
pub other_kind : (b : ℕ) → is_letter b ≡ false → is_digit b ≡ false → b ≢ 43 → b ≢ 45 → (rest : List ℕ) → kind_of (b ∷ rest) ≡ symbol_text (b ∷ rest)
other_kind b l d p m rest = not_word b rest l ∙ ap (λ t. cond t (Some Integer) (symbol_text (b ∷ rest))) (unsigned b rest (not_same b 43 p) (not_same b 45 m) ∙ ap (λ t. t && list_all is_digit rest) d)

-- the longest token, by the first byte: a letter
pub letter_longest : (bytes : List ℕ) → 0 < length bytes → is_letter (get_or bytes 0 0) ≡ true → longest bytes ≡ Some (word_kind (key_of (take (prefix_len is_word_byte bytes) bytes)), prefix_len is_word_byte bytes)
letter_longest [] h l = absurd (omega arith)
letter_longest (b ∷ bs) h l =
    let k = prefix_len is_word_byte bs in
    let e : prefix_len is_word_byte (b ∷ bs) ≡ suc k = ap (λ t. cond (t || is_digit b) (1 + k) 0) l ∙ one-add k in
    longest_by b bs is_word_byte (λ w. word_kind (key_of w)) (letter_kind b l) ∙ ap (λ n. Some (word_kind (key_of (take n (b ∷ bs))), n)) (sym e)

-- a digit
pub digit_longest : (bytes : List ℕ) → 0 < length bytes → is_digit (get_or bytes 0 0) ≡ true → longest bytes ≡ Some (Integer, prefix_len is_digit bytes)
digit_longest [] h d = absurd (omega arith)
digit_longest (b ∷ bs) h d =
    let k = prefix_len is_digit bs in
    let e : prefix_len is_digit (b ∷ bs) ≡ suc k = ap (λ t. cond t (1 + k) 0) d ∙ one-add k in
    longest_by b bs is_digit (λ w. Integer) (digit_kind b d) ∙ ap (λ n. Some (Integer, n)) (sym e)

and_false : (t : Bool) → (t && false) ≡ false
and_false true = refl
and_false false = refl

-- a sign
sign_take : (m : ℕ) (bs : List ℕ) → m ≤ length bs → is_digits (take m bs) ≡ (nat_lt 0 m && nat_le m (prefix_len is_digit bs))
sign_take m bs h = ap (λ n. nat_lt 0 n && list_all is_digit (take m bs)) (length-take-le m bs h) ∙ ap (λ t. nat_lt 0 m && t) (all_take is_digit m bs h)

sign_long : (b : ℕ) (bs : List ℕ) → (b ≡ 43) ⊎ (b ≡ 45) → (m : ℕ) → suc (prefix_len is_digit bs) < m → m ≤ suc (length bs) → kind_of (take m (b ∷ bs)) ≡ None
sign_long b bs s zero low high = absurd (omega arith)
sign_long b bs s (suc m) low high = sign_kind b s (take m bs) ∙ ap (λ t. cond t (Some Integer) None) (sign_take m bs (omega arith) ∙ ap (λ t. nat_lt 0 m && t) (le_no m (prefix_len is_digit bs) (omega arith)) ∙ and_false (nat_lt 0 m))

pub sign_longest : (b : ℕ) (bs : List ℕ) → (b ≡ 43) ⊎ (b ≡ 45) → 0 < prefix_len is_digit bs → longest (b ∷ bs) ≡ Some (Integer, suc (prefix_len is_digit bs))
unfolding longest
sign_longest b bs s more =
    let k = prefix_len is_digit bs in
    found_within (b ∷ bs) Integer (suc k) (suc (length bs)) (omega arith) (omega (arith, prefix_len-le-length is_digit bs))
    (sign_kind b s (take k bs) ∙ ap (λ t. cond t (Some Integer) None) (sign_take k bs (prefix_len-le-length is_digit bs) ∙ ap (λ t. t && nat_le k k) (lt-ltb 0 k more) ∙ le_yes k k (omega arith)))
    (sign_long b bs s)

sign_short : (b : ℕ) (bs : List ℕ) → (b ≡ 43) ⊎ (b ≡ 45) → prefix_len is_digit bs ≡ 0 → (m : ℕ) → 0 < m → m ≤ suc (length bs) → kind_of (take m (b ∷ bs)) ≡ None
sign_short b bs s none zero low high = absurd (omega arith)
sign_short b bs s none (suc zero) low high = sign_kind b s []
sign_short b bs s none (suc (suc m)) low high = sign_long b bs s (suc (suc m)) (omega arith) high

pub sign_alone : (b : ℕ) (bs : List ℕ) → (b ≡ 43) ⊎ (b ≡ 45) → prefix_len is_digit bs ≡ 0 → longest (b ∷ bs) ≡ None
unfolding longest
sign_alone b bs s none = none_within (b ∷ bs) (suc (length bs)) (sign_short b bs s none)

-- another byte: no text of three bytes is a symbol, and one of two where the first two are
triple_long : (b c : ℕ) (bs : List ℕ) → ((rest : List ℕ) → kind_of (b ∷ rest) ≡ symbol_text (b ∷ rest)) → (m : ℕ) → 2 < m → m ≤ suc (suc (length bs)) → kind_of (take m (b ∷ c ∷ bs)) ≡ None
triple_long b c bs by zero low high = absurd (omega arith)
triple_long b c bs by (suc zero) low high = absurd (omega arith)
triple_long b c bs by (suc (suc zero)) low high = absurd (omega arith)
triple_long b c [] by (suc (suc (suc m))) low high = absurd (omega arith)
triple_long b c (d ∷ bs) by (suc (suc (suc m))) low high = by (c ∷ d ∷ take m bs)

pair_longest : (b c : ℕ) (bs : List ℕ) (kind : TokenKind) → ((rest : List ℕ) → kind_of (b ∷ rest) ≡ symbol_text (b ∷ rest)) → symbol_pair b c ≡ Some kind → longest (b ∷ c ∷ bs) ≡ Some (kind, 2)
unfolding longest
pair_longest b c bs kind by e = found_within (b ∷ c ∷ bs) kind 2 (suc (suc (length bs))) (lit< tt) (omega arith) (by (c ∷ []) ∙ e) (triple_long b c bs by)

symbol_long : (b : ℕ) (bs : List ℕ) → ((rest : List ℕ) → kind_of (b ∷ rest) ≡ symbol_text (b ∷ rest)) → front_pair (b ∷ bs) ≡ None → (m : ℕ) → 1 < m → m ≤ suc (length bs) → kind_of (take m (b ∷ bs)) ≡ None
symbol_long b bs by none zero low high = absurd (omega arith)
symbol_long b bs by none (suc zero) low high = absurd (omega arith)
symbol_long b [] by none (suc (suc m)) low high = absurd (omega arith)
symbol_long b (c ∷ bs) by none (suc (suc zero)) low high = by (c ∷ []) ∙ none
symbol_long b (c ∷ bs) by none (suc (suc (suc m))) low high = triple_long b c bs by (suc (suc (suc m))) (omega arith) high

symbol_longest : (b : ℕ) (bs : List ℕ) (kind : TokenKind) → ((rest : List ℕ) → kind_of (b ∷ rest) ≡ symbol_text (b ∷ rest)) → front_pair (b ∷ bs) ≡ None → symbol_of b ≡ Some kind → longest (b ∷ bs) ≡ Some (kind, 1)
unfolding longest
symbol_longest b bs kind by none e = found_within (b ∷ bs) kind 1 (suc (length bs)) (lit< tt) (omega arith) (by [] ∙ e) (symbol_long b bs by none)

symbol_short : (b : ℕ) (bs : List ℕ) → ((rest : List ℕ) → kind_of (b ∷ rest) ≡ symbol_text (b ∷ rest)) → front_pair (b ∷ bs) ≡ None → symbol_of b ≡ None → (m : ℕ) → 0 < m → m ≤ suc (length bs) → kind_of (take m (b ∷ bs)) ≡ None
symbol_short b bs by pair none zero low high = absurd (omega arith)
symbol_short b bs by pair none (suc zero) low high = by [] ∙ none
symbol_short b bs by pair none (suc (suc m)) low high = symbol_long b bs by pair (suc (suc m)) (omega arith) high

no_symbol : (b : ℕ) (bs : List ℕ) → ((rest : List ℕ) → kind_of (b ∷ rest) ≡ symbol_text (b ∷ rest)) → front_pair (b ∷ bs) ≡ None → symbol_of b ≡ None → longest (b ∷ bs) ≡ None
unfolding longest
no_symbol b bs by pair e = none_within (b ∷ bs) (suc (length bs)) (symbol_short b bs by pair e)

-- the same of a text that is not empty
pub signed_longest : (bytes : List ℕ) → 0 < length bytes → (get_or bytes 0 0 ≡ 43) ⊎ (get_or bytes 0 0 ≡ 45) → 0 < prefix_len is_digit (drop 1 bytes) → longest bytes ≡ Some (Integer, prefix_len is_digit (drop 1 bytes) + 1)
signed_longest [] h s more = absurd (omega arith)
signed_longest (b ∷ bs) h s more = sign_longest b bs s more ∙ ap (λ n. Some (Integer, n)) (sym (add-one (prefix_len is_digit bs)))

pub signed_alone : (bytes : List ℕ) → 0 < length bytes → (get_or bytes 0 0 ≡ 43) ⊎ (get_or bytes 0 0 ≡ 45) → prefix_len is_digit (drop 1 bytes) ≡ 0 → longest bytes ≡ None
signed_alone [] h s none = absurd (omega arith)
signed_alone (b ∷ bs) h s none = sign_alone b bs s none

-- a symbol of two bytes, or else one of one byte, with how many bytes it has
abbrev pub two_or_one : Option TokenKind → Option TokenKind → Option (TokenKind × ℕ)
two_or_one (Some kind) one = Some (kind, 2)
two_or_one None (Some kind) = Some (kind, 1)
two_or_one None None = None

other_one : (b : ℕ) (bs : List ℕ) → ((rest : List ℕ) → kind_of (b ∷ rest) ≡ symbol_text (b ∷ rest)) → front_pair (b ∷ bs) ≡ None → (o : Option TokenKind) → symbol_of b ≡ o → longest (b ∷ bs) ≡ two_or_one None o
other_one b bs by pair None e = no_symbol b bs by pair e
other_one b bs by pair (Some kind) e = symbol_longest b bs kind by pair e

other_by : (b : ℕ) (bs : List ℕ) → ((rest : List ℕ) → kind_of (b ∷ rest) ≡ symbol_text (b ∷ rest)) → (two : Option TokenKind) → front_pair (b ∷ bs) ≡ two → longest (b ∷ bs) ≡ two_or_one two (symbol_of b)
other_by b bs by None e = other_one b bs by e (symbol_of b) refl
other_by b [] by (Some kind) e = cc
other_by b (c ∷ bs) by (Some kind) e = pair_longest b c bs kind by e

-- no letter, digit or sign
pub other_longest : (bytes : List ℕ) → 0 < length bytes → is_letter (get_or bytes 0 0) ≡ false → is_digit (get_or bytes 0 0) ≡ false → get_or bytes 0 0 ≢ 43 → get_or bytes 0 0 ≢ 45 → longest bytes ≡ two_or_one (front_pair bytes) (symbol_of (get_or bytes 0 0))
other_longest [] h l d p m = absurd (omega arith)
other_longest (b ∷ bs) h l d p m = other_by b bs (other_kind b l d p m) (front_pair (b ∷ bs)) refl

-- a byte that is neither `<` nor `>` begins no symbol of two
pub no_front_pair : (b : ℕ) (bs : List ℕ) → b ≢ 60 → b ≢ 62 → front_pair (b ∷ bs) ≡ None
no_front_pair b [] less greater = refl
no_front_pair b (c ∷ bs) less greater = pair_none b c less greater

fits_or : (o : Option TokenKind) (bytes : List ℕ) (k : ℕ) → suc k ≤ length bytes → IfSome (longest_within k bytes) (λ found. (0 < found.1) × (found.1 ≤ length bytes)) → IfSome (or_shorter o (suc k) (longest_within k bytes)) (λ found. (0 < found.1) × (found.1 ≤ length bytes))
fits_or None bytes k h rest = rest
fits_or (Some kind) bytes k h rest = (omega arith, h)

-- a token has a byte at least, and stands in the text
fits_within : (bytes : List ℕ) (k : ℕ) → k ≤ length bytes → IfSome (longest_within k bytes) (λ found. (0 < found.1) × (found.1 ≤ length bytes))
fits_within bytes zero h = tt
fits_within bytes (suc k) h = fits_or (kind_of (take (suc k) bytes)) bytes k h (fits_within bytes k (omega arith))

pub longest_fits : (bytes : List ℕ) → IfSome (longest bytes) (λ found. (0 < found.1) × (found.1 ≤ length bytes))
unfolding longest
longest_fits bytes = fits_within bytes (length bytes) (omega arith)

pub fits_of : (bytes : List ℕ) (o : Option (TokenKind × ℕ)) → o ≡ longest bytes → IfSome o (λ found. (0 < found.1) × (found.1 ≤ length bytes))
fits_of bytes o e = rw e (longest_fits bytes)
