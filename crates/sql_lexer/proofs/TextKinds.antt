-- What the kind of a text says of it.
use Rattle.std.proofs.Common.{◌≡◌, ℕ, Bool, true, false, cond, List, [], ◌∷◌, Option, Some, None, refl, ◌==◌, ◌&&◌}
use Rattle.sql_text.specs.Word.{is_word}
use Rattle.sql_text.specs.Key.{key_of}
use Rattle.sql_text.specs.Value.{is_integer}
use Rattle.sql_text.specs.declared.key.Key.{Key}
use Rattle.sql_lexer.specs.declared.token.TokenKind.{TokenKind}
use Rattle.sql_lexer.specs.declared.token.TokenKind.TheVariants.{Word, Integer, Comma, Point, Open, Close, Less, Equal, Greater, LessEqual, GreaterEqual, Unequal, Semi}
use Rattle.sql_lexer.specs.Tokens.{kind_of, word_kind, symbol_of, symbol_pair, symbol_text}

-- a kind that no symbol has
abbrev pub IsOther : TokenKind → Type 0
IsOther Word = Unit {0}
IsOther Integer = Unit {0}
IsOther _ = ⊥

not_one : (t : Bool) (k s : TokenKind) (o : Option TokenKind) → (Some s ≡ Some k → ⊥) → (o ≡ Some k → ⊥) → cond t (Some s) o ≡ Some k → ⊥
not_one true k s o here there e = here e
not_one false k s o here there e = there e

no_symbol_kind : (k : TokenKind) (b : ℕ) → IsOther k → symbol_of b ≡ Some k → ⊥
no_symbol_kind Word b h e = not_one (b == 44) Word Comma _ (λ f. cc) (not_one (b == 46) Word Point _ (λ f. cc) (not_one (b == 40) Word Open _ (λ f. cc) (not_one (b == 41) Word Close _ (λ f. cc) (not_one (b == 60) Word Less _ (λ f. cc) (not_one (b == 61) Word Equal _ (λ f. cc) (not_one (b == 62) Word Greater _ (λ f. cc) (not_one (b == 59) Word Semi None (λ f. cc) (λ f. cc)))))))) e
no_symbol_kind Integer b h e = not_one (b == 44) Integer Comma _ (λ f. cc) (not_one (b == 46) Integer Point _ (λ f. cc) (not_one (b == 40) Integer Open _ (λ f. cc) (not_one (b == 41) Integer Close _ (λ f. cc) (not_one (b == 60) Integer Less _ (λ f. cc) (not_one (b == 61) Integer Equal _ (λ f. cc) (not_one (b == 62) Integer Greater _ (λ f. cc) (not_one (b == 59) Integer Semi None (λ f. cc) (λ f. cc)))))))) e
no_symbol_kind _ b h e = absurd h

no_pair_kind : (k : TokenKind) (b c : ℕ) → IsOther k → symbol_pair b c ≡ Some k → ⊥
no_pair_kind Word b c h e = not_one ((b == 60) && (c == 61)) Word LessEqual _ (λ f. cc) (not_one ((b == 62) && (c == 61)) Word GreaterEqual _ (λ f. cc) (not_one ((b == 60) && (c == 62)) Word Unequal None (λ f. cc) (λ f. cc))) e
no_pair_kind Integer b c h e = not_one ((b == 60) && (c == 61)) Integer LessEqual _ (λ f. cc) (not_one ((b == 62) && (c == 61)) Integer GreaterEqual _ (λ f. cc) (not_one ((b == 60) && (c == 62)) Integer Unequal None (λ f. cc) (λ f. cc))) e
no_pair_kind _ b c h e = absurd h

no_symbol_text : (k : TokenKind) (w : List ℕ) → IsOther k → symbol_text w ≡ Some k → ⊥
no_symbol_text k [] h e = cc
no_symbol_text k (b ∷ []) h e = no_symbol_kind k b h e
no_symbol_text k (b ∷ c ∷ []) h e = no_pair_kind k b c h e
no_symbol_text k (b ∷ c ∷ d ∷ w) h e = cc

integer_if : (w i : Bool) (k : Option Key) (o : Option TokenKind) → (o ≡ Some Integer → ⊥) → cond w (Some (word_kind k)) (cond i (Some Integer) o) ≡ Some Integer → i ≡ true
integer_if w true k o none e = refl
integer_if true false None o none e = cc
integer_if true false (Some x) o none e = cc
integer_if false false k o none e = absurd (none e)

-- a text whose kind is integer is an integer
pub integer_text : (w : List ℕ) → kind_of w ≡ Some Integer → is_integer w ≡ true
unfolding kind_of
integer_text w e = integer_if (is_word w) (is_integer w) (key_of w) (symbol_text w) (no_symbol_text Integer w tt) e

word_if : (w i : Bool) (k : Option Key) (o : Option TokenKind) → (o ≡ Some Word → ⊥) → cond w (Some (word_kind k)) (cond i (Some Integer) o) ≡ Some Word → (w ≡ true) × (k ≡ None)
word_if true i None o none e = (refl, refl)
word_if true i (Some x) o none e = cc
word_if false true k o none e = cc
word_if false false k o none e = absurd (none e)

-- a text whose kind is word is a word that is not reserved
pub word_text : (w : List ℕ) → kind_of w ≡ Some Word → (is_word w ≡ true) × (key_of w ≡ None)
unfolding kind_of
word_text w e = word_if (is_word w) (is_integer w) (key_of w) (symbol_text w) (no_symbol_text Word w tt) e
