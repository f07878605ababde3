-- The text of a token in a line is no shorter than its printed text.
use Rattle.std.proofs.Common.{◌≡◌, ◌==◌, ℕ, zero, suc, ◌+◌, ◌<◌, ◌≤◌, ◌^◌, ◌⊎◌, inl, inr, Bool, true, false, cond, ◌&&◌, ◌||◌, pos, neg_ℤ, nat_lt, List, [], ◌∷◌, length, get_or, codes, Option, Some, None, refl, ap, sym, ◌∙◌, subst, arith}
use Rattle.std.specs.Char.{to_ascii_lowercase}
use Rattle.std.specs.Fmt.{decimal, signed_decimal}
use Rattle.std.specs.List.{list_all}
use Rattle.std.specs.Str.{str_eq_ignore_ascii_case, str_to_ascii_lowercase}
use Rattle.std.proofs.lemmas.Bool.{false≢true}
use Rattle.std.proofs.lemmas.Bool.Decides.{nat_tests}
use Rattle.std.proofs.lemmas.Fmt.{length-decimal-le}
use Rattle.std.proofs.lemmas.Int.Digits.{digits_value-lt}
use Rattle.std.proofs.lemmas.List.{length-map}
use Rattle.std.proofs.lemmas.Slice.Eq.{bytes_eq-Decides}
use Rattle.sql_text.proofs.ParsedValue.{own}
use Rattle.sql_text.specs.Key.{key_of}
use Rattle.sql_text.specs.Value.{is_digits, is_integer, integer, amount, fits_i64}
use Rattle.sql_text.specs.Word.{is_letter, is_digit, is_word, is_word_byte}
use Rattle.sql_text.specs.declared.key.Key.{Key}
use Rattle.sql_text.specs.declared.key.Key.TheVariants.{CreateKey, StreamKey, QueryKey, AsKey, SelectKey, DistinctKey, FromKey, WhereKey, AndKey, ExplainKey, DropKey, InKey, SharedKey, CheckpointKey, ResumeKey}
use Rattle.sql_lexer.specs.declared.token.TokenKind.{TokenKind}
use Rattle.sql_lexer.specs.declared.token.TokenKind.TheVariants.{Word, Reserved, Integer, Comma, Point, Open, Close, Less, Equal, Greater, LessEqual, GreaterEqual, Unequal, Semi}
use Rattle.sql_lexer.specs.Tokens.{kind_of, word_kind, symbol_text}
use Rattle.sql_lexer.proofs.TextKinds.{integer_text, word_text}
use Rattle.sql_parser.specs.Grammar.{Lexeme, word, number, key}
use Rattle.sql_printer.specs.Printed.{key_text, text_for, is_any_word, goes_on}
use Rattle.sql_parser.specs.Syntax.{lexeme_as}
use Rattle.sql_printer.proofs.Spaced.{and_left, and_right, pos_small, neg_small}

-- an integer that fits in 64 bits
abbrev pub IsFit : Lexeme → Type 0
IsFit (number z) = fits_i64 z ≡ true
IsFit _ = Unit {0}

-- how long the space is that a word before the token needs
abbrev pub lead : Lexeme → ℕ
lead m = cond {A = ℕ} (goes_on m) 1 0

-- A word would go on with the text, which is no shorter than the printed one; or it has room for the printed text and the space before it.
abbrev pub HasRoom : Lexeme → List ℕ → Type 0
HasRoom m w = ((is_word_byte (get_or w 0 0) ≡ true) × (length (text_for m) ≤ length w)) ⊎ (length (text_for m) + lead m ≤ length w)

-- the decimal form of a number is no longer than digits that write it
decimal_length : (ds : List ℕ) (n : ℕ) → n ≡ amount ds → is_digits ds ≡ true → n < 2 ^ 64 → length (decimal n) ≤ length ds
decimal_length ds n e h small =
    let some : 0 < length ds = nonempty (length ds) (and_left (nat_lt 0 (length ds)) (list_all is_digit ds) h) in
    let digits = own.to ds (and_right (nat_lt 0 (length ds)) (list_all is_digit ds) h) in
    let P : ℕ → Type 0 = λ m. m < 10 ^ length ds in
    let below : n < 10 ^ length ds = subst P (sym (e ∙ own.same ds digits)) (digits_value-lt 10 ds digits) in
    length-decimal-le (length ds) n some below small
  where
    nonempty : (n : ℕ) → nat_lt 0 n ≡ true → 0 < n
    nonempty n h = grind (arith, nat_tests)

plus_room : (b : ℕ) (ds : List ℕ) → is_digits ds ≡ true → fits_i64 (pos (amount ds)) ≡ true → length (decimal (amount ds)) + 1 ≤ length (b ∷ ds)
plus_room b ds h f = omega (arith, decimal_length ds (amount ds) refl h (pos_small (amount ds) f))

minus_room : (b : ℕ) (ds : List ℕ) (n : ℕ) → n ≡ amount ds → is_digits ds ≡ true → fits_i64 (neg_ℤ (pos n)) ≡ true → length (signed_decimal (neg_ℤ (pos n))) + lead (number (neg_ℤ (pos n))) ≤ length (b ∷ ds)
minus_room b ds zero e h f = omega (arith, decimal_length ds 0 e h (pos_small 0 f))
minus_room b ds (suc n) e h f = omega (arith, decimal_length ds (suc n) e h (neg_small n f))

digit_part : (b : ℕ) → is_digit b ≡ true → is_word_byte b ≡ true
digit_part b h = grind (arith, nat_tests)

digits_room : (b : ℕ) (ds : List ℕ) → is_digits (b ∷ ds) ≡ true → fits_i64 (pos (amount (b ∷ ds))) ≡ true → (is_word_byte b ≡ true) × (length (decimal (amount (b ∷ ds))) ≤ length (b ∷ ds))
digits_room b ds h f = (
  digit_part b (and_left (is_digit b) (list_all is_digit ds) (and_right (nat_lt 0 (length (b ∷ ds))) (list_all is_digit (b ∷ ds)) h)),
  decimal_length (b ∷ ds) (amount (b ∷ ds)) refl h (pos_small (amount (b ∷ ds)) f),
)

integer_by : (b : ℕ) (ds : List ℕ) (p q : Bool) → cond p (is_digits ds) (cond q (is_digits ds) (is_digits (b ∷ ds))) ≡ true
    → fits_i64 (cond p (pos (amount ds)) (cond q (neg_ℤ (pos (amount ds))) (pos (amount (b ∷ ds))))) ≡ true
    → HasRoom (number (cond p (pos (amount ds)) (cond q (neg_ℤ (pos (amount ds))) (pos (amount (b ∷ ds)))))) (b ∷ ds)
integer_by b ds true q h f = inr (plus_room b ds h f)
integer_by b ds false true h f = inr (minus_room b ds (amount ds) refl h f)
integer_by b ds false false h f = inl (digits_room b ds h f)

integer_room : (w : List ℕ) → is_integer w ≡ true → fits_i64 (integer w) ≡ true → HasRoom (number (integer w)) w
integer_room [] h f = absurd (false≢true h)
integer_room (b ∷ ds) h f = integer_by b ds (b == 43) (b == 45) h f

-- how many bytes a symbol has
abbrev symbol_size : TokenKind → ℕ
symbol_size Word = 0
symbol_size (Reserved k) = 0
symbol_size Integer = 0
symbol_size LessEqual = 2
symbol_size GreaterEqual = 2
symbol_size Unequal = 2
symbol_size _ = 1

same_kind : (x s : TokenKind) → Some x ≡ Some s → x ≡ s
same_kind x s e = cc

pick : (t : Bool) (x s : TokenKind) (o : Option TokenKind) (n : ℕ) → symbol_size x ≡ n → (o ≡ Some s → symbol_size s ≡ n) → cond t (Some x) o ≡ Some s → symbol_size s ≡ n
pick true x s o n here there e = let P : TokenKind → Type 0 = λ y. symbol_size y ≡ n in subst P (same_kind x s e) here
pick false x s o n here there e = there e

symbol_length : (w : List ℕ) (s : TokenKind) → symbol_text w ≡ Some s → symbol_size s ≡ length w
symbol_length [] s e = cc
symbol_length (b ∷ []) s e =
    pick (b == 44) Comma s _ 1 refl (pick (b == 46) Point s _ 1 refl (pick (b == 40) Open s _ 1 refl (pick (b == 41) Close s _ 1 refl (pick (b == 60) Less s _ 1 refl (pick (b == 61) Equal s _ 1 refl (pick (b == 62) Greater s _ 1 refl (pick (b == 59) Semi s None 1 refl (λ f. cc)))))))) e
symbol_length (b ∷ c ∷ []) s e =
    pick ((b == 60) && (c == 61)) LessEqual s _ 2 refl (pick ((b == 62) && (c == 61)) GreaterEqual s _ 2 refl (pick ((b == 60) && (c == 62)) Unequal s None 2 refl (λ f. cc))) e
symbol_length (b ∷ c ∷ d ∷ w) s e = cc

-- a text that is no word and no integer is a symbol
symbol_if : (a i : Bool) (o : Option Key) (t : Option TokenKind) (s : TokenKind) → (word_kind o ≡ s → ⊥) → (Integer ≡ s → ⊥) → cond a (Some (word_kind o)) (cond i (Some Integer) t) ≡ Some s → t ≡ Some s
symbol_if true i o t s no_word no_integer e = absurd (no_word (same_kind (word_kind o) s e))
symbol_if false true o t s no_word no_integer e = absurd (no_integer (same_kind Integer s e))
symbol_if false false o t s no_word no_integer e = e

no_word_kind : (s : TokenKind) → (Word ≡ s → ⊥) → ((k : Key) → Reserved k ≡ s → ⊥) → (o : Option Key) → word_kind o ≡ s → ⊥
no_word_kind s w r None e = w e
no_word_kind s w r (Some k) e = r k e

pair_length : (w : List ℕ) (s : TokenKind) → kind_of w ≡ Some s → (Word ≡ s → ⊥) → ((k : Key) → Reserved k ≡ s → ⊥) → (Integer ≡ s → ⊥) → symbol_size s ≡ length w
unfolding kind_of
pair_length w s e no_word no_key no_integer = symbol_length w s (symbol_if (is_word w) (is_integer w) (key_of w) (symbol_text w) s (no_word_kind s no_word no_key (key_of w)) no_integer e)

-- a reserved word is a word that is that key
reserved_if : (a i : Bool) (o : Option Key) (t : Option TokenKind) (k : Key) → (t ≡ Some (Reserved k) → ⊥) → cond a (Some (word_kind o)) (cond i (Some Integer) t) ≡ Some (Reserved k) → (a ≡ true) × (o ≡ Some k)
reserved_if true i None t k none e = cc
reserved_if true i (Some x) t k none e = (refl, cc)
reserved_if false true o t k none e = cc
reserved_if false false o t k none e = absurd (none e)

pub reserved_text : (w : List ℕ) (k : Key) → 0 < length w → kind_of w ≡ Some (Reserved k) → (is_word w ≡ true) × (key_of w ≡ Some k)
unfolding kind_of
reserved_text w k some e = reserved_if (is_word w) (is_integer w) (key_of w) (symbol_text w) k (λ f. absurd (omega (arith, some, symbol_length w (Reserved k) f))) e

-- texts that are the same but for the case of their letters are as long
same_length : (w c : List ℕ) → str_eq_ignore_ascii_case w c ≡ true → length c ≤ length w
same_length w c h =
    let e : str_to_ascii_lowercase w ≡ str_to_ascii_lowercase c = (bytes_eq-Decides (str_to_ascii_lowercase w) (str_to_ascii_lowercase c)).0 h in
    omega (arith, ap length e, length-map w to_ascii_lowercase, length-map c to_ascii_lowercase)

same_key : (x k : Key) → Some x ≡ Some k → x ≡ k
same_key x k e = cc

key_by : (t : Bool) (x k : Key) (o : Option Key) (n : ℕ) → (t ≡ true → length (key_text x) ≤ n) → (o ≡ Some k → length (key_text k) ≤ n) → cond t (Some x) o ≡ Some k → length (key_text k) ≤ n
key_by true x k o n here there e = let P : Key → Type 0 = λ y. length (key_text y) ≤ n in subst P (same_key x k e) (here refl)
key_by false x k o n here there e = there e

-- a reserved word is as long as its printed text
key_length : (w : List ℕ) (k : Key) → key_of w ≡ Some k → length (key_text k) ≤ length w
unfolding key_of
key_length w k e =
    let n = length w in
    key_by (str_eq_ignore_ascii_case w (codes "CREATE")) CreateKey k _ n (same_length w (codes "CREATE"))
    (key_by (str_eq_ignore_ascii_case w (codes "STREAM")) StreamKey k _ n (same_length w (codes "STREAM"))
    (key_by (str_eq_ignore_ascii_case w (codes "QUERY")) QueryKey k _ n (same_length w (codes "QUERY"))
    (key_by (str_eq_ignore_ascii_case w (codes "AS")) AsKey k _ n (same_length w (codes "AS"))
    (key_by (str_eq_ignore_ascii_case w (codes "SELECT")) SelectKey k _ n (same_length w (codes "SELECT"))
    (key_by (str_eq_ignore_ascii_case w (codes "DISTINCT")) DistinctKey k _ n (same_length w (codes "DISTINCT"))
    (key_by (str_eq_ignore_ascii_case w (codes "FROM")) FromKey k _ n (same_length w (codes "FROM"))
    (key_by (str_eq_ignore_ascii_case w (codes "WHERE")) WhereKey k _ n (same_length w (codes "WHERE"))
    (key_by (str_eq_ignore_ascii_case w (codes "AND")) AndKey k _ n (same_length w (codes "AND"))
    (key_by (str_eq_ignore_ascii_case w (codes "EXPLAIN")) ExplainKey k _ n (same_length w (codes "EXPLAIN"))
    (key_by (str_eq_ignore_ascii_case w (codes "DROP")) DropKey k _ n (same_length w (codes "DROP"))
    (key_by (str_eq_ignore_ascii_case w (codes "IN")) InKey k _ n (same_length w (codes "IN"))
    (key_by (str_eq_ignore_ascii_case w (codes "SHARED")) SharedKey k _ n (same_length w (codes "SHARED"))
    (key_by (str_eq_ignore_ascii_case w (codes "CHECKPOINT")) CheckpointKey k _ n (same_length w (codes "CHECKPOINT"))
    (key_by (str_eq_ignore_ascii_case w (codes "RESUME")) ResumeKey k None n (same_length w (codes "RESUME")) (λ f. cc))))))))))))))) e

letter_part : (b : ℕ) → is_letter b ≡ true → is_word_byte b ≡ true
letter_part b h = ap (λ t. t || is_digit b) h

word_first : (w : List ℕ) → is_word w ≡ true → is_word_byte (get_or w 0 0) ≡ true
word_first [] h = absurd (false≢true h)
word_first (b ∷ bs) h = letter_part b (and_left (is_letter b) (list_all is_word_byte bs) h)

key_room : (w : List ℕ) (k : Key) → (is_word w ≡ true) × (key_of w ≡ Some k) → HasRoom (key k) w
key_room w k r = inl (word_first w r.0, key_length w k r.1)

word_room : (w : List ℕ) → is_word w ≡ true → HasRoom (word w) w
word_room w h = inl (word_first w h, omega arith)

-- the text of a token has room for what is printed for it
pub has_room : (k : TokenKind) (w : List ℕ) → 0 < length w → kind_of w ≡ Some k → IsFit (lexeme_as k w) → HasRoom (lexeme_as k w) w
has_room Word w some e f = word_room w (word_text w e).0
has_room (Reserved k) w some e f = key_room w k (reserved_text w k some e)
has_room Integer w some e f = integer_room w (integer_text w e) f
has_room LessEqual w some e f = inr (omega (arith, pair_length w LessEqual e (λ g. cc) (λ k g. cc) (λ g. cc)))
has_room GreaterEqual w some e f = inr (omega (arith, pair_length w GreaterEqual e (λ g. cc) (λ k g. cc) (λ g. cc)))
has_room Unequal w some e f = inr (omega (arith, pair_length w Unequal e (λ g. cc) (λ k g. cc) (λ g. cc)))
has_room Comma w some e f = inr (omega (arith, some))
has_room Point w some e f = inr (omega (arith, some))
has_room Open w some e f = inr (omega (arith, some))
has_room Close w some e f = inr (omega (arith, some))
has_room Less w some e f = inr (omega (arith, some))
has_room Equal w some e f = inr (omega (arith, some))
has_room Greater w some e f = inr (omega (arith, some))
has_room Semi w some e f = inr (omega (arith, some))

-- the text of a word is a word
pub any_word : (k : TokenKind) (w : List ℕ) → 0 < length w → kind_of w ≡ Some k → is_any_word (lexeme_as k w) ≡ true → is_word w ≡ true
any_word Word w some e h = (word_text w e).0
any_word (Reserved k) w some e h = (reserved_text w k some e).0
any_word Integer w some e h = absurd (false≢true h)
any_word Comma w some e h = absurd (false≢true h)
any_word Point w some e h = absurd (false≢true h)
any_word Open w some e h = absurd (false≢true h)
any_word Close w some e h = absurd (false≢true h)
any_word Less w some e h = absurd (false≢true h)
any_word Equal w some e h = absurd (false≢true h)
any_word Greater w some e h = absurd (false≢true h)
any_word LessEqual w some e h = absurd (false≢true h)
any_word GreaterEqual w some e h = absurd (false≢true h)
any_word Unequal w some e h = absurd (false≢true h)
any_word Semi w some e h = absurd (false≢true h)
