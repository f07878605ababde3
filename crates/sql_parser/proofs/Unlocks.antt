-- A statement that unlocks begins with the word UNLOCK.
use Rattle.std.proofs.Common.{◌≡◌, ℕ, zero, suc, ◌+◌, ◌-◌, ◌<◌, ◌≤◌, inl, inr, true, false, cond, ◌&&◌, ◌||◌, nat_le, ℤ, List, [], ◌∷◌, length, take, drop, Some, None, refl, ap, sym, ◌∙◌, subst, arith, length-drop}
use Rattle.std.specs.Prelude.{slice_range}
use Rattle.std.specs.List.{list_all, prefix_len}
use Rattle.std.proofs.lemmas.Bool.{cases_lt}
use Rattle.std.proofs.lemmas.Bool.Decides.{nat_tests}
use Rattle.std.proofs.lemmas.List.{take-append-drop, length-take-le}
use Rattle.std.proofs.lemmas.List.Sums.{prefix_len-le-length}
use Rattle.sql_text.specs.Blank.{is_blank}
use Rattle.sql_text.specs.Key.{key_of}
use Rattle.sql_text.specs.Value.{is_integer}
use Rattle.sql_text.specs.Word.{is_letter, is_digit, is_word, is_word_byte, word_of}
use Rattle.sql_lexer.specs.declared.token.TokenKind.{TokenKind}
use Rattle.sql_lexer.specs.declared.token.TokenKind.TheVariants.{Word, Reserved, Integer, Comma, Point, Open, Close, Less, Equal, Greater, LessEqual, GreaterEqual, Unequal, Semi}
use Rattle.sql_lexer.specs.declared.token.Token.{Token}
use Rattle.sql_lexer.specs.Tokens.{kind_of, word_kind, symbol_text}
use Rattle.sql_lexer.specs.Standing.{IsNextToken, StandFrom}
use Rattle.sql_lexer.proofs.Longest.{all_take}
use Rattle.sql_lexer.proofs.Standing.{tokens_stand}
use Rattle.sql_lexer.proofs.TextKinds.{word_text}
use Rattle.sql_parser.specs.declared.tree.Statement.TheVariants.{Unlock}
use Rattle.sql_parser.specs.Grammar.{Lexeme, word, number, semicolon, is_unlock, Spells}
use Rattle.sql_parser.specs.Syntax.{lexeme_as, lexemes, IsStatement}
use Rattle.sql_parser.specs.Unlocking.{first_word, may_unlock}
use Rattle.sql_parser.proofs.Prefixes.{StopsFor, and_left, and_right, prefix_stops}

letter_part : (b : ℕ) → is_letter b ≡ true → is_word_byte b ≡ true
letter_part b h = ap (λ t. t || is_digit b) h

letter_no_blank : (b : ℕ) → is_letter b ≡ true → is_blank b ≡ false
letter_no_blank b h = grind (arith, nat_tests)

-- a text with a word at its front begins with no blank, and each byte of the word is one of a word
word_front : (m : ℕ) (bytes : List ℕ) → is_word (take m bytes) ≡ true → StopsFor is_blank bytes × (list_all is_word_byte (take m bytes) ≡ true)
word_front zero bytes h = let e : false ≡ true = h in cc
word_front (suc m) [] h = let e : false ≡ true = h in cc
word_front (suc m) (b ∷ bytes) h =
    let l = and_left (is_letter b) (list_all is_word_byte (take m bytes)) h in
    let r = and_right (is_letter b) (list_all is_word_byte (take m bytes)) h in
    (letter_no_blank b l, ap (λ t. t && list_all is_word_byte (take m bytes)) (letter_part b l) ∙ r)

-- a longer front of bytes of a word is a word
word_grows : (m k : ℕ) (bytes : List ℕ) → m ≤ k → is_word (take m bytes) ≡ true → list_all is_word_byte (take k bytes) ≡ true → is_word (take k bytes) ≡ true
word_grows zero k bytes le h all = let e : false ≡ true = h in cc
word_grows (suc m) zero bytes le h all = absurd (omega (arith, le))
word_grows (suc m) (suc k) [] le h all = let e : false ≡ true = h in cc
word_grows (suc m) (suc k) (b ∷ bytes) le h all =
    ap (λ t. t && list_all is_word_byte (take k bytes)) (and_left (is_letter b) (list_all is_word_byte (take m bytes)) h)
    ∙ and_right (is_word_byte b) (list_all is_word_byte (take k bytes)) all

-- the kind of a word
kind_of_word : (w : List ℕ) → is_word w ≡ true → kind_of w ≡ Some (word_kind (key_of w))
unfolding kind_of
kind_of_word w h = ap (λ t. cond t (Some (word_kind (key_of w))) (cond (is_integer w) (Some Integer) (symbol_text w))) h

le_true : (m k : ℕ) → m ≤ k → nat_le m k ≡ true
le_true m k h = grind (arith, nat_tests)

le_from : (m k : ℕ) → nat_le m k ≡ true → m ≤ k
le_from m k h = grind (arith, nat_tests)

module _ (line : List ℕ) (t : Token) (n : IsNextToken line 0 t) (is : t.kind ≡ Word) where
  abbrev bytes : List ℕ
  bytes = drop t.from line

  abbrev size : ℕ
  size = t.to - t.from

  word_is : is_word (take size bytes) ≡ true
  word_is = (word_text (slice_range line t.from t.to) (n.kind ∙ ap Some is)).0

  room : size ≤ length bytes
  room = omega (arith, n.inside, length-drop t.from line)

  -- the word goes on as far as bytes of a word do
  ends : prefix_len is_word_byte bytes ≡ size
  ends =
      let q = prefix_len is_word_byte bytes in
      let high : q ≤ length bytes = prefix_len-le-length is_word_byte bytes in
      let low : size ≤ q = le_from size q (sym (all_take is_word_byte size bytes room) ∙ (word_front size bytes word_is).1) in
      elim (cases_lt size q) [
        | inl lt ↦ (
            let grown : is_word (take q bytes) ≡ true = word_grows size q bytes low word_is (all_take is_word_byte q bytes high ∙ le_true q q (omega arith)) in
            let end : ℕ = t.from + q in
            let inside : end ≤ length line = omega (arith, high, length-drop t.from line, n.has_bytes, n.inside) in
            let behind : t.to < end = omega (arith, lt, n.has_bytes) in
            let same : end - t.from ≡ q = omega arith in
            let none : kind_of (take q bytes) ≡ None = ap (λ k. kind_of (take k bytes)) (sym same) ∙ n.longest end behind inside in
            let found = kind_of_word (take q bytes) grown in
            cc
            )
        | inr le ↦ omega (arith, le, low)
      ]

  -- nothing but blanks stand before it
  blanks : prefix_len is_blank line ≡ t.from
  blanks =
      let front = take t.from line in
      let all : t.from - 0 ≡ t.from = omega arith in
      let before : list_all is_blank front ≡ true = ap (λ k. list_all is_blank (take k line)) (sym all) ∙ n.blanks in
      let P : List ℕ → Type 0 = λ l. prefix_len is_blank l ≡ t.from in
      subst P (take-append-drop t.from line)
      (prefix_stops is_blank front bytes before (word_front size bytes word_is).0
      ∙ length-take-le t.from line (omega (arith, n.inside, n.has_bytes)))

  -- so it is the first word of the line
  pub first_is : first_word line ≡ slice_range line t.from t.to
  first_is = ap (λ k. word_of (drop k line)) blanks ∙ ap (λ k. take k bytes) ends

-- the kind and the text of a token that says a word
said_word : (k : TokenKind) (v u : List ℕ) → lexeme_as k v ≡ word u → (k ≡ Word) × (v ≡ u)
said_word Word v u e = (refl, cc)
said_word (Reserved r) v u e = cc
said_word Integer v u e = cc
said_word Comma v u e = cc
said_word Point v u e = cc
said_word Open v u e = cc
said_word Close v u e = cc
said_word Less v u e = cc
said_word Equal v u e = cc
said_word Greater v u e = cc
said_word LessEqual v u e = cc
said_word GreaterEqual v u e = cc
said_word Unequal v u e = cc
said_word Semi v u e = cc

first_same : {X : Type 0} (x y : X) (xs ys : List X) → x ∷ xs ≡ y ∷ ys → x ≡ y
first_same x y xs ys e = cc

-- tokens that begin with a word stand in a line whose first word it is
pub begins_so : (line : List ℕ) (ts : List Token) (w : List ℕ) (ls : List Lexeme) → StandFrom line 0 ts → lexemes line ts ≡ word w ∷ ls → first_word line ≡ w
begins_so line [] w ls stand e = cc
begins_so line (t ∷ ts) w ls stand e =
    let said = said_word t.kind (slice_range line t.from t.to) w (first_same _ _ _ _ e) in
    first_is line t stand.0 said.0 ∙ said.1

unlocks_by : (line : List ℕ) (ts : List Token) (w : List ℕ) (ls : List Lexeme) → StandFrom line 0 ts → is_unlock w ≡ true → lexemes line ts ≡ word w ∷ ls → may_unlock line ≡ true
unlocks_by line ts w ls stand is e = ap is_unlock (begins_so line ts w ls stand e) ∙ is

-- a text that unlocks may
pub unlocking_may : (line : List ℕ) (k : ℤ) → IsStatement line (Unlock k) → may_unlock line ≡ true
unlocking_may line k s = by s.spelled
  where
    stand : StandFrom line 0 s.its_tokens
    stand = tokens_stand line s.its_tokens s.lexed

    by : Spells (lexemes line s.its_tokens) (Unlock k) → may_unlock line ≡ true
    by (whole, w, is, inl e) = unlocks_by line s.its_tokens w.unlock (number k ∷ []) stand is.unlock e
    by (whole, w, is, inr e) = unlocks_by line s.its_tokens w.unlock (number k ∷ semicolon ∷ []) stand is.unlock e
