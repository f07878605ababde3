-- A printed list of tokens is read as these tokens.
use Rattle.std.proofs.Common.{◌≡◌, ◌≢◌, ℕ, suc, ◌+◌, ◌<◌, ◌^◌, Bool, true, false, cond, ◌&&◌, ◌||◌, List, [], ◌∷◌, ◌++◌, length, take, Option, Some, None, refl, ap, ◌∙◌, arith, get_or, inl, inr, ◌⊎◌, subst, ℤ, lit<, one-add, pos, negsuc, neg_ℤ, ltb-true}
use Rattle.std.proofs.lemmas.Bool.{false≢true}
use Rattle.std.specs.Fmt.{decimal}
use Rattle.std.proofs.lemmas.Fmt.{decimal_nonempty, digits_decimal, digits_value-decimal}
use Rattle.sql_text.proofs.ParsedValue.{own, plain}
use Rattle.std.specs.Fmt.{signed_decimal}
use Rattle.std.specs.List.{list_all, prefix_len}
use Rattle.std.proofs.lemmas.List.{take_at}
use Rattle.sql_text.specs.Word.{is_letter, is_digit, is_word_byte}
use Rattle.sql_text.specs.Key.{key_of}
use Rattle.sql_text.specs.Name.{is_name}
use Rattle.sql_text.specs.Value.{integer, fits_i64, amount}
use Rattle.sql_lexer.specs.declared.token.TokenKind.{TokenKind}
use Rattle.sql_lexer.specs.declared.token.TokenKind.TheVariants as kinds
use Rattle.sql_lexer.specs.Tokens.{longest, is_blank, word_kind, symbol_of, symbol_pair, front_pair}
use Rattle.sql_text.specs.declared.key.Key.TheVariants.{CreateKey, StreamKey, QueryKey, AsKey, SelectKey, DistinctKey, FromKey, WhereKey, AndKey, ExplainKey, DropKey, InKey, SharedKey, CheckpointKey, ResumeKey}
use Rattle.std.specs.Prelude.{codes}
use Rattle.std.proofs.lemmas.Bool.Decides.{nat_tests}
use Rattle.sql_lexer.proofs.Longest.{letter_longest, digit_longest, sign_longest, two_or_one, other_longest, no_front_pair}
use Rattle.sql_parser.proofs.Names.{name_facts}
use Rattle.sql_parser.specs.Grammar.{Lexeme, word, number, key, comma, point, opening, closing, less, equal, greater, less_equal, greater_equal, unequal, semicolon}
use Rattle.sql_parser.specs.Reading.{kind_at}
use Rattle.sql_printer.specs.Printed.{text_for}
pub use Rattle.sql_parser.proofs.Prefixes.{StopsFor, and_left, and_right, prefix_stops}

-- the longest token at the front is the text of this one, whatever else stands behind
abbrev pub IsFront : Lexeme → List ℕ → Type 0
IsFront l rest = (longest (text_for l ++ rest) ≡ Some (kind_at l, length (text_for l))) × (0 < length (text_for l)) × (is_blank (get_or (text_for l ++ rest) 0 0) ≡ false)

-- what may stand behind the text of a token with no space between
abbrev pub MayFollow : Lexeme → List ℕ → Type 0
MayFollow (word w) rest = StopsFor is_word_byte rest
MayFollow (number z) rest = StopsFor is_digit rest
MayFollow (key k) rest = StopsFor is_word_byte rest
MayFollow less rest = front_pair (60 ∷ rest) ≡ None
MayFollow greater rest = front_pair (62 ∷ rest) ≡ None
MayFollow _ rest = Unit {0}

-- the tokens that a line can have
abbrev pub IsSound : Lexeme → Type 0
IsSound (word w) = is_name w ≡ true
IsSound (number z) = fits_i64 z ≡ true
IsSound _ = Unit {0}

letter_high : (b : ℕ) → is_letter b ≡ true → is_blank b ≡ false
letter_high b h = grind (arith, nat_tests)

letter_part : (b : ℕ) → is_letter b ≡ true → is_word_byte b ≡ true
letter_part b h = ap (λ t. t || is_digit b) h

-- a word is read whole
word_front : (b : ℕ) (t rest : List ℕ) (kind : TokenKind) → is_letter b ≡ true → list_all is_word_byte t ≡ true → word_kind (key_of (b ∷ t)) ≡ kind → StopsFor is_word_byte rest → (longest ((b ∷ t) ++ rest) ≡ Some (kind, suc (length t))) × (0 < suc (length t)) × (is_blank b ≡ false)
word_front b t rest kind l all is s =
    let all_too : list_all is_word_byte (b ∷ t) ≡ true = ap (λ x. x && list_all is_word_byte t) (letter_part b l) ∙ all in
    let n : prefix_len is_word_byte ((b ∷ t) ++ rest) ≡ suc (length t) = prefix_stops is_word_byte (b ∷ t) rest all_too s in (
      letter_longest ((b ∷ t) ++ rest) (omega arith) l
          ∙ ap (λ m. Some (word_kind (key_of (take m ((b ∷ t) ++ rest))), m)) n
          ∙ ap (λ w. Some (word_kind (key_of w), suc (length t))) (take_at (b ∷ t) rest (suc (length t)) refl)
          ∙ ap (λ k. Some (k, suc (length t))) is,
      omega arith,
      letter_high b l,
    )

-- a symbol of one byte is read, where the next byte makes none with it
symbol_front : (b : ℕ) (kind : TokenKind) (rest : List ℕ) → is_letter b ≡ false → is_digit b ≡ false → b ≢ 43 → b ≢ 45 → front_pair (b ∷ rest) ≡ None → symbol_of b ≡ Some kind → is_blank b ≡ false → (longest (b ∷ rest) ≡ Some (kind, 1)) × (0 < 1) × (is_blank b ≡ false)
symbol_front b kind rest l d p m none e blank =
    let found : longest (b ∷ rest) ≡ two_or_one (front_pair (b ∷ rest)) (symbol_of b) = other_longest (b ∷ rest) (omega arith) l d p m in
    (found ∙ ap (λ (o : Option TokenKind). two_or_one o (symbol_of b)) none ∙ ap (two_or_one None) e, lit< tt, blank)

-- a symbol of two bytes is read whole
pair_front : (b c : ℕ) (kind : TokenKind) (rest : List ℕ) → is_letter b ≡ false → is_digit b ≡ false → b ≢ 43 → b ≢ 45 → symbol_pair b c ≡ Some kind → is_blank b ≡ false → (longest (b ∷ c ∷ rest) ≡ Some (kind, 2)) × (0 < 2) × (is_blank b ≡ false)
pair_front b c kind rest l d p m e blank =
    let found : longest (b ∷ c ∷ rest) ≡ two_or_one (symbol_pair b c) (symbol_of b) = other_longest (b ∷ c ∷ rest) (omega arith) l d p m in
    (found ∙ ap (λ (o : Option TokenKind). two_or_one o (symbol_of b)) e, lit< tt, blank)

or_right : (a b : Bool) → (a || b) ≡ false → b ≡ false
or_right true b h = cc
or_right false b h = h

pub no_sign : (b : ℕ) → is_digit b ≡ true → (b ≡ 43) ⊎ (b ≡ 45) → ⊥
no_sign b h (inl e) = let P : ℕ → Type 0 = λ x. is_digit x ≡ true in false≢true (subst P e h)
no_sign b h (inr e) = let P : ℕ → Type 0 = λ x. is_digit x ≡ true in false≢true (subst P e h)

-- digits are read whole
digit_low : (b : ℕ) → is_digit b ≡ true → is_blank b ≡ false
digit_low b h = grind (arith, nat_tests)

pub stops_digits : (rest : List ℕ) → StopsFor is_word_byte rest → StopsFor is_digit rest
stops_digits [] s = tt
stops_digits (c ∷ rest) s = or_right (is_letter c) (is_digit c) s

digits_front : (ds rest : List ℕ) → 0 < length ds → list_all is_digit ds ≡ true → StopsFor is_digit rest → (longest (ds ++ rest) ≡ Some (kinds.Integer, length ds)) × (0 < length ds) × (is_blank (get_or (ds ++ rest) 0 0) ≡ false)
digits_front [] rest h all s = absurd (omega arith)
digits_front (b ∷ ds) rest h all s =
    let first = and_left (is_digit b) (list_all is_digit ds) all in
    (digit_longest ((b ∷ ds) ++ rest) (omega arith) first ∙ ap (λ n. Some (kinds.Integer, n)) (prefix_stops is_digit (b ∷ ds) rest all s), h, digit_low b first)

pub pos_small : (n : ℕ) → fits_i64 (pos n) ≡ true → n < 2 ^ 64
pos_small n h = omega (arith, ltb-true n (2 ^ 63) h)

pub neg_small : (n : ℕ) → fits_i64 (negsuc n) ≡ true → suc n < 2 ^ 64
neg_small n h = omega (arith, ltb-true n (2 ^ 63) h)

number_front : (z : ℤ) (rest : List ℕ) → fits_i64 z ≡ true → StopsFor is_digit rest → IsFront (number z) rest
number_front (pos n) rest h s = digits_front (decimal n) rest (decimal_nonempty n (pos_small n h)) (digits_decimal own n (pos_small n h)) s
number_front (negsuc n) rest h s =
    let ds = decimal (suc n) in
    let small = neg_small n h in
    let k : prefix_len is_digit (ds ++ rest) ≡ length ds = prefix_stops is_digit ds rest (digits_decimal own (suc n) small) s in
    (sign_longest 45 (ds ++ rest) (inr refl) (omega (arith, decimal_nonempty (suc n) small)) ∙ ap (λ m. Some (kinds.Integer, suc m)) k, omega arith, refl)

-- the number that is printed is the number that is read
integer_digits : (ds : List ℕ) → 0 < length ds → list_all is_digit ds ≡ true → integer ds ≡ pos (amount ds)
integer_digits [] h all = absurd (omega arith)
integer_digits (b ∷ ds) h all = (plain b ds (λ e. absurd (no_sign b (and_left (is_digit b) (list_all is_digit ds) all) (inl e))) (λ e. absurd (no_sign b (and_left (is_digit b) (list_all is_digit ds) all) (inr e)))).1

pub number_again : (z : ℤ) → fits_i64 z ≡ true → integer (signed_decimal z) ≡ z
number_again (pos n) h = integer_digits (decimal n) (decimal_nonempty n (pos_small n h)) (digits_decimal own n (pos_small n h)) ∙ ap pos (digits_value-decimal own n (pos_small n h))
number_again (negsuc n) h = ap (λ m. neg_ℤ (pos m)) (digits_value-decimal own (suc n) (neg_small n h))

pub front : (l : Lexeme) (rest : List ℕ) → IsSound l → MayFollow l rest → IsFront l rest
unfolding key_of
front (word []) rest h s = absurd (let f : false ≡ true = (name_facts [] h).word in cc)
front (word (b ∷ t)) rest h s =
    let n = name_facts (b ∷ t) h in
    word_front b t rest kinds.Word (and_left (is_letter b) (list_all is_word_byte t) n.word) (and_right (is_letter b) (list_all is_word_byte t) n.word) (ap word_kind n.free) s
front (number z) rest h s = number_front z rest h s
front (key CreateKey) rest h s = word_front 67 (codes "REATE") rest (kinds.Reserved CreateKey) refl refl refl s
front (key StreamKey) rest h s = word_front 83 (codes "TREAM") rest (kinds.Reserved StreamKey) refl refl refl s
front (key QueryKey) rest h s = word_front 81 (codes "UERY") rest (kinds.Reserved QueryKey) refl refl refl s
front (key AsKey) rest h s = word_front 65 (codes "S") rest (kinds.Reserved AsKey) refl refl refl s
front (key SelectKey) rest h s = word_front 83 (codes "ELECT") rest (kinds.Reserved SelectKey) refl refl refl s
front (key DistinctKey) rest h s = word_front 68 (codes "ISTINCT") rest (kinds.Reserved DistinctKey) refl refl refl s
front (key FromKey) rest h s = word_front 70 (codes "ROM") rest (kinds.Reserved FromKey) refl refl refl s
front (key WhereKey) rest h s = word_front 87 (codes "HERE") rest (kinds.Reserved WhereKey) refl refl refl s
front (key AndKey) rest h s = word_front 65 (codes "ND") rest (kinds.Reserved AndKey) refl refl refl s
front (key ExplainKey) rest h s = word_front 69 (codes "XPLAIN") rest (kinds.Reserved ExplainKey) refl refl refl s
front (key DropKey) rest h s = word_front 68 (codes "ROP") rest (kinds.Reserved DropKey) refl refl refl s
front (key InKey) rest h s = word_front 73 (codes "N") rest (kinds.Reserved InKey) refl refl refl s
front (key SharedKey) rest h s = word_front 83 (codes "HARED") rest (kinds.Reserved SharedKey) refl refl refl s
front (key CheckpointKey) rest h s = word_front 67 (codes "HECKPOINT") rest (kinds.Reserved CheckpointKey) refl refl refl s
front (key ResumeKey) rest h s = word_front 82 (codes "ESUME") rest (kinds.Reserved ResumeKey) refl refl refl s
front comma rest h s = symbol_front 44 kinds.Comma rest refl refl (λ e. omega arith) (λ e. omega arith) (no_front_pair 44 rest (λ e. omega arith) (λ e. omega arith)) refl refl
front point rest h s = symbol_front 46 kinds.Point rest refl refl (λ e. omega arith) (λ e. omega arith) (no_front_pair 46 rest (λ e. omega arith) (λ e. omega arith)) refl refl
front opening rest h s = symbol_front 40 kinds.Open rest refl refl (λ e. omega arith) (λ e. omega arith) (no_front_pair 40 rest (λ e. omega arith) (λ e. omega arith)) refl refl
front closing rest h s = symbol_front 41 kinds.Close rest refl refl (λ e. omega arith) (λ e. omega arith) (no_front_pair 41 rest (λ e. omega arith) (λ e. omega arith)) refl refl
front less rest h s = symbol_front 60 kinds.Less rest refl refl (λ e. omega arith) (λ e. omega arith) s refl refl
front equal rest h s = symbol_front 61 kinds.Equal rest refl refl (λ e. omega arith) (λ e. omega arith) (no_front_pair 61 rest (λ e. omega arith) (λ e. omega arith)) refl refl
front greater rest h s = symbol_front 62 kinds.Greater rest refl refl (λ e. omega arith) (λ e. omega arith) s refl refl
front less_equal rest h s = pair_front 60 61 kinds.LessEqual rest refl refl (λ e. omega arith) (λ e. omega arith) refl refl
front greater_equal rest h s = pair_front 62 61 kinds.GreaterEqual rest refl refl (λ e. omega arith) (λ e. omega arith) refl refl
front unequal rest h s = pair_front 60 62 kinds.Unequal rest refl refl (λ e. omega arith) (λ e. omega arith) refl refl
front semicolon rest h s = symbol_front 59 kinds.Semi rest refl refl (λ e. omega arith) (λ e. omega arith) (no_front_pair 59 rest (λ e. omega arith) (λ e. omega arith)) refl refl
