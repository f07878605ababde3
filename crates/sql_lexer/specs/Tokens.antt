-- The tokens of a line: at each place the longest text that is a token.
pub use Rattle.sql_text.specs.Blank.{is_blank}
use Rattle.std.specs.Prelude.{ℕ, zero, suc, ◌+◌, ◌-◌, ◌==◌, ◌&&◌, if◌then◌else◌, List, [], ◌∷◌, length, take, drop, Option, Some, None, Result, Ok, Err}
use Rattle.sql_text.specs.Word.{is_word}
use Rattle.sql_text.specs.Key.{key_of}
use Rattle.sql_text.specs.Value.{is_integer}
use Rattle.sql_text.specs.declared.key.Key.{Key}
use Rattle.sql_lexer.specs.declared.token.TokenKind.{TokenKind}
use Rattle.sql_lexer.specs.declared.token.TokenKind.TheVariants.{Word, Reserved, Integer, Comma, Point, Open, Close, Less, Equal, Greater, LessEqual, GreaterEqual, Unequal, Semi}
use Rattle.sql_lexer.specs.declared.token.Token.{Token}

-- the symbol that a byte is
abbrev pub symbol_of : ℕ → Option TokenKind
symbol_of b =
    if b == 44 then Some Comma else
    (if b == 46 then Some Point else
    (if b == 40 then Some Open else
    (if b == 41 then Some Close else
    (if b == 60 then Some Less else
    (if b == 61 then Some Equal else
    (if b == 62 then Some Greater else
    (if b == 59 then Some Semi else None)))))))

-- the symbol that two bytes are
abbrev pub symbol_pair : ℕ → ℕ → Option TokenKind
symbol_pair b c =
    if (b == 60) && (c == 61) then Some LessEqual else
    (if (b == 62) && (c == 61) then Some GreaterEqual else
    (if (b == 60) && (c == 62) then Some Unequal else None))

-- the symbol that a text is
abbrev pub symbol_text : List ℕ → Option TokenKind
symbol_text [] = None
symbol_text (b ∷ []) = symbol_of b
symbol_text (b ∷ c ∷ []) = symbol_pair b c
symbol_text (b ∷ c ∷ d ∷ bs) = None

-- the symbol that the first two bytes are
abbrev pub front_pair : List ℕ → Option TokenKind
front_pair [] = None
front_pair (b ∷ []) = None
front_pair (b ∷ c ∷ bs) = symbol_pair b c

-- a word that is reserved is that key
abbrev pub word_kind : Option Key → TokenKind
word_kind None = Word
word_kind (Some k) = Reserved k

-- the token that a whole text is
unfoldable pub kind_of : List ℕ → Option TokenKind
kind_of text = if is_word text then Some (word_kind (key_of text)) else (if is_integer text then Some Integer else symbol_text text)

-- a token of n bytes, or else a shorter one
abbrev pub or_shorter : Option TokenKind → ℕ → Option (TokenKind × ℕ) → Option (TokenKind × ℕ)
or_shorter None n shorter = shorter
or_shorter (Some kind) n shorter = Some (kind, n)

-- the longest front of at most n bytes that is a token, and how many bytes it has
abbrev pub longest_within : ℕ → List ℕ → Option (TokenKind × ℕ)
longest_within zero bytes = None
longest_within (suc n) bytes = or_shorter (kind_of (take (suc n) bytes)) (suc n) (longest_within n bytes)

-- the longest front that is a token
unfoldable pub longest : List ℕ → Option (TokenKind × ℕ)
longest bytes = longest_within (length bytes) bytes

-- one token before the others
abbrev pub with_first : Token → Result (List Token) ℕ → Result (List Token) ℕ
with_first t (Ok ts) = Ok (t ∷ ts)
with_first t (Err at) = Err at

-- the token found at a place, and then the others; others takes how many bytes of the token are left behind its first
abbrev pub token_then : Option (TokenKind × ℕ) → ℕ → (ℕ → Result (List Token) ℕ) → Result (List Token) ℕ
token_then None place others = Err place
token_then (Some found) place others = with_first (record { kind = found.0; from = place; to = place + found.1 }) (others (found.1 - 1))

-- The tokens from a place on, where the first `inside` bytes belong to a token that is begun; or the first place at
-- which no token begins. What stands between tokens are blanks.
abbrev pub tokens_from : ℕ → ℕ → List ℕ → Result (List Token) ℕ
tokens_from inside place [] = Ok []
tokens_from (suc inside) place (b ∷ bs) = tokens_from inside (place + 1) bs
tokens_from zero place (b ∷ bs) = if is_blank b then tokens_from zero (place + 1) bs else token_then (longest (b ∷ bs)) place (λ inside. tokens_from inside (place + 1) bs)

-- the tokens from a place of a line on
abbrev pub tokens_at : List ℕ → ℕ → Result (List Token) ℕ
tokens_at line place = tokens_from 0 place (drop place line)

-- the tokens of a line
abbrev pub tokens : List ℕ → Result (List Token) ℕ
tokens line = tokens_from 0 0 line
