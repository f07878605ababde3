-- A printed statement is left whole of its line, and is a statement line.
use Rattle.std.proofs.Common.{◌≡◌, ℕ, ◌-◌, ◌<◌, Bool, true, false, cond, not, ◌&&◌, ◌||◌, ◌==◌, pos, negsuc, suc, List, [], ◌∷◌, ◌++◌, length, take, drop, get_or, reverse, refl, ap, ap₂, sym, ◌∙◌, subst, arith, nat_lt, append_assoc, append-nil, length-append}
use Rattle.std.specs.Fmt.{decimal}
use Rattle.std.specs.Io.BufRead.{strip_last}
use Rattle.std.specs.List.{list_all, list_any, prefix_len, suffix_len, AllByRecursion}
use Rattle.std.proofs.Math.Seq.{get_or-append_seam}
use Rattle.std.proofs.lemmas.Bool.Decides.{nat_tests}
use Rattle.std.proofs.lemmas.Fmt.{decimal_nonempty, digits_decimal}
use Rattle.std.proofs.lemmas.List.{reverse-append, take_all}
use Rattle.sql_text.specs.Blank.{is_blank, without_blanks_before, without_blanks_behind, trimmed}
use Rattle.sql_text.specs.Lines.{is_line_feed}
use Rattle.sql_text.specs.Word.{is_letter, is_digit, is_word, is_word_byte}
use Rattle.sql_text.specs.declared.key.Key.{Key}
use Rattle.sql_text.specs.declared.key.Key.TheVariants.{CreateKey, StreamKey, QueryKey, AsKey, SelectKey, DistinctKey, FromKey, WhereKey, AndKey, ExplainKey, DropKey, InKey, SharedKey, CheckpointKey, ResumeKey}
use Rattle.sql_text.proofs.ParsedValue.{own}
use Rattle.sql_text.proofs.Fronts.{StopsFor, and_left, and_right, and_both, all_weaker, front_stops}
use Rattle.sem_laws.proofs.Tests.{or-false}
use Rattle.sql_catalog.specs.Rows.{begins_comma}
use Rattle.sql_parser.specs.declared.line.LineKind.TheVariants as kinds
use Rattle.sql_parser.specs.Grammar.{Lexeme, word, number, key, comma, point, opening, closing, less, equal, greater, less_equal, greater_equal, unequal, semicolon}
use Rattle.sql_parser.specs.LineKind.{stripped, kind_of_line}
use Rattle.sql_parser.proofs.Names.{name_facts}
use Rattle.sql_printer.specs.Printed.{text_for, key_text, gap_by, spaced_by}
use Rattle.sql_printer.proofs.Spaced.{IsSound, pos_small, neg_small}
use Rattle.law_resume.specs.Restores.{IsOneLine}

-- neither a blank nor a CR nor an LF
abbrev is_ink : ℕ → Bool
is_ink b = not (is_blank b) && (not (b == 13) && not (is_line_feed b))

word_ink : (b : ℕ) → is_word_byte b ≡ true → is_ink b ≡ true
word_ink b h = grind (arith, nat_tests)

digit_ink : (b : ℕ) → is_digit b ≡ true → is_ink b ≡ true
digit_ink b h = grind (arith, nat_tests)

ink_no_blank : (b : ℕ) → is_ink b ≡ true → is_blank b ≡ false
ink_no_blank b h = grind (arith, nat_tests)

ink_no_return : (b : ℕ) → is_ink b ≡ true → (b == 13) ≡ false
ink_no_return b h = grind (arith, nat_tests)

ink_no_feed : (b : ℕ) → is_ink b ≡ true → is_line_feed b ≡ false
ink_no_feed b h = grind (arith, nat_tests)

letter_word : (b : ℕ) → is_letter b ≡ true → is_word_byte b ≡ true
letter_word b h = ap (λ t. t || is_digit b) h

-- a text of such bytes, one or more
pub record IsInk (text : List ℕ) : Type 0 where
  pub byte : ℕ
  pub rest : List ℕ
  pub whole : text ≡ byte ∷ rest
  pub all : list_all is_ink (byte ∷ rest) ≡ true

ink : (b : ℕ) (bs : List ℕ) → list_all is_ink (b ∷ bs) ≡ true → IsInk (b ∷ bs)
ink b bs h = record { byte = b; rest = bs; whole = refl; all = h }

word_is_ink : (w : List ℕ) → is_word w ≡ true → IsInk w
word_is_ink [] h = absurd cc
word_is_ink (b ∷ bs) h =
    ink b bs (and_both (is_ink b) (list_all is_ink bs) (word_ink b (letter_word b (and_left (is_letter b) (list_all is_word_byte bs) h)))
    (all_weaker is_word_byte is_ink word_ink bs (and_right (is_letter b) (list_all is_word_byte bs) h)))

digits_are_ink : (ds : List ℕ) → 0 < length ds → list_all is_digit ds ≡ true → IsInk ds
digits_are_ink [] n h = absurd (omega arith)
digits_are_ink (d ∷ ds) n h = ink d ds (all_weaker is_digit is_ink digit_ink (d ∷ ds) h)

-- such is the text of each token
token_ink : (l : Lexeme) → IsSound l → IsInk (text_for l)
token_ink (word w) h = word_is_ink w (name_facts w h).word
token_ink (number (pos n)) h = digits_are_ink (decimal n) (decimal_nonempty n (pos_small n h)) (digits_decimal own n (pos_small n h))
token_ink (number (negsuc n)) h = ink 45 (decimal (suc n)) (all_weaker is_digit is_ink digit_ink (decimal (suc n)) (digits_decimal own (suc n) (neg_small n h)))
token_ink (key k) h = by k
  where
    by : (k : Key) → IsInk (key_text k)
    by CreateKey = ink _ _ refl
    by StreamKey = ink _ _ refl
    by QueryKey = ink _ _ refl
    by AsKey = ink _ _ refl
    by SelectKey = ink _ _ refl
    by DistinctKey = ink _ _ refl
    by FromKey = ink _ _ refl
    by WhereKey = ink _ _ refl
    by AndKey = ink _ _ refl
    by ExplainKey = ink _ _ refl
    by DropKey = ink _ _ refl
    by InKey = ink _ _ refl
    by SharedKey = ink _ _ refl
    by CheckpointKey = ink _ _ refl
    by ResumeKey = ink _ _ refl
token_ink comma h = ink _ _ refl
token_ink point h = ink _ _ refl
token_ink opening h = ink _ _ refl
token_ink closing h = ink _ _ refl
token_ink less h = ink _ _ refl
token_ink equal h = ink _ _ refl
token_ink greater h = ink _ _ refl
token_ink less_equal h = ink _ _ refl
token_ink greater_equal h = ink _ _ refl
token_ink unequal h = ink _ _ refl
token_ink semicolon h = ink _ _ refl

-- a text that ends with such a byte
pub record EndsInInk (text : List ℕ) : Type 0 where
  pub front : List ℕ
  pub byte : ℕ
  pub whole : text ≡ front ++ byte ∷ []
  pub ink : is_ink byte ≡ true

ends_behind : (before text : List ℕ) → EndsInInk text → EndsInInk (before ++ text)
ends_behind before text e = record {
  front = before ++ e.front;
  byte = e.byte;
  whole = ap (λ t. before ++ t) e.whole ∙ sym (append_assoc before e.front (e.byte ∷ []));
  ink = e.ink;
}

ink_ends : (b : ℕ) (bs : List ℕ) → list_all is_ink (b ∷ bs) ≡ true → EndsInInk (b ∷ bs)
ink_ends b [] h = record { front = []; byte = b; whole = refl; ink = and_left (is_ink b) true h }
ink_ends b (c ∷ bs) h = ends_behind (b ∷ []) (c ∷ bs) (ink_ends c bs (and_right (is_ink b) (list_all is_ink (c ∷ bs)) h))

token_ends : (l : Lexeme) → IsSound l → EndsInInk (text_for l)
token_ends l h = (let i = token_ink l h in subst EndsInInk (sym i.whole) (ink_ends i.byte i.rest i.all))

tokens_end : (close : Lexeme → Lexeme → Bool) (l : Lexeme) (ls : List Lexeme) → AllByRecursion IsSound (l ∷ ls) → EndsInInk (spaced_by close (l ∷ ls))
tokens_end close l [] h = token_ends l h.0
tokens_end close l (m ∷ ls) h = ends_behind (text_for l) (gap_by close l m ++ spaced_by close (m ∷ ls)) (ends_behind (gap_by close l m) (spaced_by close (m ∷ ls)) (tokens_end close m ls h.1))

-- a text of tokens has no LF
none_joined : (a b : List ℕ) → list_any is_line_feed a ≡ false → list_any is_line_feed b ≡ false → list_any is_line_feed (a ++ b) ≡ false
none_joined [] b h k = k
none_joined (x ∷ a) b h k = (let both = or-false (is_line_feed x) (list_any is_line_feed a) h in ap₂ (λ p q. p || q) both.0 (none_joined a b both.1 k))

none_in_ink : (bs : List ℕ) → list_all is_ink bs ≡ true → list_any is_line_feed bs ≡ false
none_in_ink [] h = refl
none_in_ink (b ∷ bs) h = ap₂ (λ p q. p || q) (ink_no_feed b (and_left (is_ink b) (list_all is_ink bs) h)) (none_in_ink bs (and_right (is_ink b) (list_all is_ink bs) h))

none_in_token : (l : Lexeme) → IsSound l → list_any is_line_feed (text_for l) ≡ false
none_in_token l h = (let i = token_ink l h in ap (list_any is_line_feed) i.whole ∙ none_in_ink (i.byte ∷ i.rest) i.all)

none_in_gap : (close : Lexeme → Lexeme → Bool) (l m : Lexeme) → list_any is_line_feed (gap_by close l m) ≡ false
none_in_gap close l m = by (close l m)
  where
    by : (b : Bool) → list_any is_line_feed (cond b [] (32 ∷ [])) ≡ false
    by true = refl
    by false = refl

tokens_in_line : (close : Lexeme → Lexeme → Bool) (ls : List Lexeme) → AllByRecursion IsSound ls → list_any is_line_feed (spaced_by close ls) ≡ false
tokens_in_line close [] h = refl
tokens_in_line close (l ∷ []) h = none_in_token l h.0
tokens_in_line close (l ∷ m ∷ ls) h =
    none_joined (text_for l) (gap_by close l m ++ spaced_by close (m ∷ ls)) (none_in_token l h.0)
    (none_joined (gap_by close l m) (spaced_by close (m ∷ ls)) (none_in_gap close l m) (tokens_in_line close (m ∷ ls) h.1))

-- of a text between two such bytes all is left
nothing_before : (b : ℕ) (bs : List ℕ) → is_ink b ≡ true → without_blanks_before (b ∷ bs) ≡ b ∷ bs
nothing_before b bs h = ap (λ n. drop n (b ∷ bs)) (front_stops is_blank [] (b ∷ bs) refl (ink_no_blank b h))

nothing_behind : (front : List ℕ) (c : ℕ) → is_ink c ≡ true → without_blanks_behind (front ++ c ∷ []) ≡ front ++ c ∷ []
nothing_behind front c h =
    let text : List ℕ = front ++ c ∷ [] in
    let none : suffix_len is_blank text ≡ 0 = ap (prefix_len is_blank) (reverse-append front (c ∷ [])) ∙ front_stops is_blank [] (c ∷ reverse front) refl (ink_no_blank c h) in
    take_all (length text - suffix_len is_blank text) text (omega (arith, none))

no_return : (front : List ℕ) (c : ℕ) → is_ink c ≡ true → strip_last 13 (front ++ c ∷ []) ≡ front ++ c ∷ []
no_return front c h =
    let text : List ℕ = front ++ c ∷ [] in
    let n : length text - 1 ≡ length front = omega (arith, length-append front (c ∷ [])) in
    let last : get_or text (length text - 1) 0 ≡ c = ap (λ i. get_or text i 0) n ∙ get_or-append_seam front c [] 0 in
    ap (λ b. cond (nat_lt 0 (length text) && b) (take (length text - 1) text) text) (ap (λ x. x == 13) last ∙ ink_no_return c h)
    ∙ never (nat_lt 0 (length text)) (take (length text - 1) text) text
  where
    never : (b : Bool) (x y : List ℕ) → cond (b && false) x y ≡ y
    never true x y = refl
    never false x y = refl

pub stays_whole : (b : ℕ) (bs : List ℕ) → is_ink b ≡ true → EndsInInk (b ∷ bs) → stripped (b ∷ bs) ≡ b ∷ bs
unfolding trimmed
stays_whole b bs h e =
    let kept : strip_last 13 (b ∷ bs) ≡ b ∷ bs = ap (strip_last 13) e.whole ∙ no_return e.front e.byte e.ink ∙ sym e.whole in
    let behind : without_blanks_behind (b ∷ bs) ≡ b ∷ bs = ap without_blanks_behind e.whole ∙ nothing_behind e.front e.byte e.ink ∙ sym e.whole in
    ap trimmed kept ∙ ap without_blanks_behind (nothing_before b bs h) ∙ behind

-- no comma stands behind a reserved word and a space
abbrev pub Follows : Lexeme → Type 0
Follows (word w) = Unit {0}
Follows (number z) = Unit {0}
Follows (key k) = Unit {0}
Follows _ = ⊥

word_no_comma : (b : ℕ) → is_word_byte b ≡ true → (b == 44) ≡ false
word_no_comma b h = grind (arith, nat_tests)

word_begins : (w rest : List ℕ) → is_word w ≡ true → begins_comma (w ++ rest) ≡ false
word_begins [] rest h = absurd cc
word_begins (b ∷ bs) rest h = word_no_comma b (letter_word b (and_left (is_letter b) (list_all is_word_byte bs) h))

digit_word : (b : ℕ) → is_digit b ≡ true → is_word_byte b ≡ true
digit_word b h = grind (arith, nat_tests)

digits_begin : (ds rest : List ℕ) → list_all is_digit ds ≡ true → 0 < length ds → begins_comma (ds ++ rest) ≡ false
digits_begin [] rest h n = absurd (omega arith)
digits_begin (b ∷ bs) rest h n = word_no_comma b (digit_word b (and_left (is_digit b) (list_all is_digit bs) h))

no_comma : (l : Lexeme) (rest : List ℕ) → Follows l → IsSound l → begins_comma (text_for l ++ rest) ≡ false
no_comma (word w) rest f h = word_begins w rest (name_facts w h).word
no_comma (number (pos n)) rest f h = digits_begin (decimal n) rest (digits_decimal own n (pos_small n h)) (decimal_nonempty n (pos_small n h))
no_comma (number (negsuc n)) rest f h = refl
no_comma (key k) rest f h = by k
  where
    by : (k : Key) → begins_comma (key_text k ++ rest) ≡ false
    by CreateKey = refl
    by StreamKey = refl
    by QueryKey = refl
    by AsKey = refl
    by SelectKey = refl
    by DistinctKey = refl
    by FromKey = refl
    by WhereKey = refl
    by AndKey = refl
    by ExplainKey = refl
    by DropKey = refl
    by InKey = refl
    by SharedKey = refl
    by CheckpointKey = refl
    by ResumeKey = refl
no_comma comma rest f h = absurd f
no_comma point rest f h = absurd f
no_comma opening rest f h = absurd f
no_comma closing rest f h = absurd f
no_comma less rest f h = absurd f
no_comma equal rest f h = absurd f
no_comma greater rest f h = absurd f
no_comma less_equal rest f h = absurd f
no_comma greater_equal rest f h = absurd f
no_comma unequal rest f h = absurd f
no_comma semicolon rest f h = absurd f

ink_first : (text rest : List ℕ) → IsInk text → StopsFor is_blank (text ++ rest)
ink_first text rest i = subst (λ t. StopsFor is_blank (t ++ rest)) (sym i.whole) (ink_no_blank i.byte (and_left (is_ink i.byte) (list_all is_ink i.rest) i.all))

-- the two words that a line of a checkpoint begins with
abbrev pub Begins : Key → Type 0
Begins CreateKey = Unit {0}
Begins ResumeKey = Unit {0}
Begins _ = ⊥

space_dropped : (rest : List ℕ) → StopsFor is_blank rest → without_blanks_before (32 ∷ rest) ≡ rest
space_dropped rest s = ap (λ n. drop n (32 ∷ rest)) (front_stops is_blank (32 ∷ []) rest refl s)

pub no_row : (k : Key) (rest : List ℕ) → Begins k → StopsFor is_blank rest → begins_comma rest ≡ false → kind_of_line (key_text k ++ 32 ∷ rest) ≡ kinds.StatementLine
no_row CreateKey rest b s h = ap (λ t. cond (begins_comma t) kinds.RowLine kinds.StatementLine) (space_dropped rest s) ∙ ap (λ b. cond b kinds.RowLine kinds.StatementLine) h
no_row ResumeKey rest b s h = ap (λ t. cond (begins_comma t) kinds.RowLine kinds.StatementLine) (space_dropped rest s) ∙ ap (λ b. cond b kinds.RowLine kinds.StatementLine) h
no_row StreamKey rest b s h = absurd b
no_row QueryKey rest b s h = absurd b
no_row AsKey rest b s h = absurd b
no_row SelectKey rest b s h = absurd b
no_row DistinctKey rest b s h = absurd b
no_row FromKey rest b s h = absurd b
no_row WhereKey rest b s h = absurd b
no_row AndKey rest b s h = absurd b
no_row ExplainKey rest b s h = absurd b
no_row DropKey rest b s h = absurd b
no_row InKey rest b s h = absurd b
no_row SharedKey rest b s h = absurd b
no_row CheckpointKey rest b s h = absurd b

-- a line of tokens, of which the first is such a word
pub record IsStatementText (line : List ℕ) : Type 0 where
  pub left : stripped line ≡ line
  pub kind : kind_of_line line ≡ kinds.StatementLine
  pub whole : IsOneLine line

abbrev behind_first : (Lexeme → Lexeme → Bool) → Lexeme → List Lexeme → List ℕ
behind_first close m [] = []
behind_first close m (n ∷ ls) = gap_by close m n ++ spaced_by close (n ∷ ls)

first_of : (close : Lexeme → Lexeme → Bool) (m : Lexeme) (ls : List Lexeme) → spaced_by close (m ∷ ls) ≡ text_for m ++ behind_first close m ls
first_of close m [] = sym (append-nil (text_for m))
first_of close m (n ∷ ls) = refl

key_stays : (k : Key) (rest : List ℕ) → Begins k → EndsInInk (key_text k ++ 32 ∷ rest) → stripped (key_text k ++ 32 ∷ rest) ≡ key_text k ++ 32 ∷ rest
key_stays CreateKey rest b e = stays_whole _ _ refl e
key_stays ResumeKey rest b e = stays_whole _ _ refl e
key_stays StreamKey rest b e = absurd b
key_stays QueryKey rest b e = absurd b
key_stays AsKey rest b e = absurd b
key_stays SelectKey rest b e = absurd b
key_stays DistinctKey rest b e = absurd b
key_stays FromKey rest b e = absurd b
key_stays WhereKey rest b e = absurd b
key_stays AndKey rest b e = absurd b
key_stays ExplainKey rest b e = absurd b
key_stays DropKey rest b e = absurd b
key_stays InKey rest b e = absurd b
key_stays SharedKey rest b e = absurd b
key_stays CheckpointKey rest b e = absurd b

pub line_text : (close : Lexeme → Lexeme → Bool) (k : Key) (m : Lexeme) (ls : List Lexeme) → Begins k → close (key k) m ≡ false → Follows m → AllByRecursion IsSound (key k ∷ m ∷ ls)
    → IsStatementText (spaced_by close (key k ∷ m ∷ ls))
line_text close k m ls b apart f h =
    let rest : List ℕ = spaced_by close (m ∷ ls) in
    let whole : spaced_by close (key k ∷ m ∷ ls) ≡ key_text k ++ 32 ∷ rest = ap (λ o. key_text k ++ (cond o [] (32 ∷ []) ++ rest)) apart in
    let first : rest ≡ text_for m ++ behind_first close m ls = first_of close m ls in
    let solid : StopsFor is_blank rest = subst (StopsFor is_blank) (sym first) (ink_first (text_for m) (behind_first close m ls) (token_ink m h.1.0)) in
    let none : begins_comma rest ≡ false = ap begins_comma first ∙ no_comma m (behind_first close m ls) f h.1.0 in
    subst IsStatementText (sym whole)
    (record {
      left = key_stays k rest b (subst EndsInInk whole (tokens_end close (key k) (m ∷ ls) h));
      kind = no_row k rest b solid none;
      whole = subst IsOneLine whole (tokens_in_line close (key k ∷ m ∷ ls) h);
    })
