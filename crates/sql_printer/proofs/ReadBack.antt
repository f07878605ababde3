-- A printed list of tokens is read as these tokens.
use Rattle.std.proofs.Common.{◌≡◌, ℕ, ◌+◌, ◌-◌, Bool, true, false, cond, List, [], ◌∷◌, ◌++◌, length, take, drop, Result, Ok, refl, ap, sym, ◌∙◌, append_assoc, append-nil, length-append, arith, subst, Option, Some, None, inl, codes}
use Rattle.std.specs.Prelude.{slice_range}
use Rattle.std.specs.List.{AllByRecursion}
use Rattle.std.proofs.lemmas.List.{take_at, drop_at}
use Rattle.sql_text.specs.Word.{is_word_byte}
use Rattle.sql_lexer.specs.declared.token.Token.{Token}
use Rattle.sql_lexer.specs.Tokens.{tokens, tokens_from, with_first, front_pair}
use Rattle.sql_lexer.proofs.TokenLists.{token_front, blank_front}
use Rattle.sql_parser.specs.Grammar.{capitals, Lexeme, word, number, key, comma, point, opening, closing, less, equal, greater, less_equal, greater_equal, unequal, semicolon}
use Rattle.sql_parser.specs.Reading.{kind_at}
use Rattle.sql_parser.specs.Syntax.{lexeme_as, lexemes}
use Rattle.sql_printer.specs.Printed.{text_for, joins_last, gap_by, spaced_by, joins, printed}
use Rattle.sql_parser.proofs.Compact.{in_capitals}
use Rattle.sql_printer.proofs.Spaced.{IsSound, MayFollow, StopsFor, stops_digits, front, number_again}
use Rattle.sql_parser.specs.declared.tree.Statement.{Statement}
use Rattle.sql_parser.specs.declared.transitions.State.{State}
use Rattle.sql_parser.specs.declared.transitions.State.TheVariants.{Start}
use Rattle.sql_parser.specs.Grammar.{IsWhole, statement_tokens}
use Rattle.sql_parser.specs.Reading.{Parts, no_parts, walk, finished}
use Rattle.sql_parser.specs.Syntax.{IsStatement}
use Rattle.sql_printer.specs.Printed.{joins_short, printed_form, short_form}
use Rattle.sql_parser.proofs.Again.{spelled_read}

-- the tokens from a place on say ls
pub record Said (line : List ℕ) (place : ℕ) (bytes : List ℕ) (ls : List Lexeme) : Type 0 where
  pub its_tokens : List Token
  pub lexed : tokens_from 0 place bytes ≡ Ok its_tokens
  pub say : lexemes line its_tokens ≡ ls

says_itself : (l : Lexeme) → IsSound l → lexeme_as (kind_at l) (text_for l) ≡ l
says_itself (word w) h = refl
says_itself (number z) h = ap number (number_again z h)
says_itself (key k) h = refl
says_itself comma h = refl
says_itself point h = refl
says_itself opening h = refl
says_itself closing h = refl
says_itself less h = refl
says_itself equal h = refl
says_itself greater h = refl
says_itself less_equal h = refl
says_itself greater_equal h = refl
says_itself unequal h = refl
says_itself semicolon h = refl

-- the text of a token is cut out of the line
cut : (before t rest : List ℕ) → slice_range (before ++ (t ++ rest)) (length before) (length before + length t) ≡ t
cut before t rest =
    let n : length before + length t - length before ≡ length t = omega arith in
    ap (λ m. take m (drop (length before) (before ++ (t ++ rest)))) n
    ∙ ap (take (length t)) (drop_at before (t ++ rest) (length before) refl)
    ∙ take_at t rest (length t) refl

said_token : (before : List ℕ) (l : Lexeme) (rest : List ℕ) (ls : List Lexeme) → IsSound l → MayFollow l rest → Said ((before ++ text_for l) ++ rest) (length (before ++ text_for l)) rest ls → Said (before ++ (text_for l ++ rest)) (length before) (text_for l ++ rest) (l ∷ ls)
said_token before l rest ls sound follow s =
    let t = text_for l in
    let place = length before in
    let f = front l rest sound follow in
    let tok : Token = record { kind = kind_at l; from = place; to = place + length t } in
    let line : List ℕ = before ++ (t ++ rest) in
    record {
      its_tokens = tok ∷ s.its_tokens;
      lexed = token_front place (length t) (kind_at l) (t ++ rest) (omega (arith, length-append t rest, f.1)) f.2 f.0 f.1
          ∙ ap (λ bs. with_first tok (tokens_from 0 (place + length t) bs)) (drop_at t rest (length t) refl)
          ∙ ap (λ p. with_first tok (tokens_from 0 p rest)) (sym (length-append before t))
          ∙ ap (with_first tok) s.lexed;
      say = ap (λ w. lexeme_as (kind_at l) w ∷ lexemes line s.its_tokens) (cut before t rest)
          ∙ ap (λ x. x ∷ lexemes line s.its_tokens) (says_itself l sound)
          ∙ ap (λ m. l ∷ lexemes m s.its_tokens) (sym (append_assoc before t rest))
          ∙ ap (λ r. l ∷ r) s.say;
    }

said_space : (before rest : List ℕ) (ls : List Lexeme) → Said ((before ++ 32 ∷ []) ++ rest) (length (before ++ 32 ∷ [])) rest ls → Said (before ++ 32 ∷ rest) (length before) (32 ∷ rest) ls
said_space before rest ls s =
    record {
      its_tokens = s.its_tokens;
      lexed = blank_front (length before) (32 ∷ rest) (omega arith) refl ∙ ap (λ p. tokens_from 0 p rest) (sym (length-append before (32 ∷ []))) ∙ s.lexed;
      say = ap (λ m. lexemes m s.its_tokens) (sym (append_assoc before (32 ∷ []) rest)) ∙ s.say;
    }

-- what stands behind a word is no part of it
stops_behind : (m : Lexeme) (ls : List Lexeme) → StopsFor is_word_byte (cond (joins_last m) [] (32 ∷ []) ++ printed (m ∷ ls))
stops_behind comma [] = refl
stops_behind comma (x ∷ ls) = refl
stops_behind point [] = refl
stops_behind point (x ∷ ls) = refl
stops_behind closing [] = refl
stops_behind closing (x ∷ ls) = refl
stops_behind _ ls = refl

-- nor does it make another symbol with `<` or `>`
less_behind : (m : Lexeme) (ls : List Lexeme) → front_pair (60 ∷ (cond (joins_last m) [] (32 ∷ []) ++ printed (m ∷ ls))) ≡ None
less_behind comma [] = refl
less_behind comma (x ∷ ls) = refl
less_behind point [] = refl
less_behind point (x ∷ ls) = refl
less_behind closing [] = refl
less_behind closing (x ∷ ls) = refl
less_behind _ ls = refl

greater_behind : (m : Lexeme) (ls : List Lexeme) → front_pair (62 ∷ (cond (joins_last m) [] (32 ∷ []) ++ printed (m ∷ ls))) ≡ None
greater_behind comma [] = refl
greater_behind comma (x ∷ ls) = refl
greater_behind point [] = refl
greater_behind point (x ∷ ls) = refl
greater_behind closing [] = refl
greater_behind closing (x ∷ ls) = refl
greater_behind _ ls = refl

may_follow : (l m : Lexeme) (ls : List Lexeme) → MayFollow l (gap_by joins l m ++ printed (m ∷ ls))
may_follow (word w) m ls = stops_behind m ls
may_follow (number z) m ls = stops_digits (gap_by joins (number z) m ++ printed (m ∷ ls)) (stops_behind m ls)
may_follow (key k) m ls = stops_behind m ls
may_follow less m ls = less_behind m ls
may_follow greater m ls = greater_behind m ls
may_follow _ _ _ = tt

may_end_line : (l : Lexeme) → MayFollow l []
may_end_line (word w) = tt
may_end_line (number z) = tt
may_end_line (key k) = tt
may_end_line less = refl
may_end_line greater = refl
may_end_line _ = tt

-- what stands behind each token may follow it
abbrev pub IsApart : (Lexeme → Lexeme → Bool) → List Lexeme → Type 0
IsApart close [] = Unit {0}
IsApart close (l ∷ []) = Unit {0}
IsApart close (l ∷ m ∷ ls) = MayFollow l (gap_by close l m ++ spaced_by close (m ∷ ls)) × IsApart close (m ∷ ls)

printed_apart : (ls : List Lexeme) → IsApart joins ls
printed_apart [] = tt
printed_apart (l ∷ []) = tt
printed_apart (l ∷ m ∷ ls) = (may_follow l m ls, printed_apart (m ∷ ls))

spaced : (close : Lexeme → Lexeme → Bool) (o : Bool) (before : List ℕ) (m : Lexeme) (ls : List Lexeme)
    → ((b : List ℕ) → Said (b ++ spaced_by close (m ∷ ls)) (length b) (spaced_by close (m ∷ ls)) (m ∷ ls))
    → Said (before ++ (cond o [] (32 ∷ []) ++ spaced_by close (m ∷ ls))) (length before) (cond o [] (32 ∷ []) ++ spaced_by close (m ∷ ls)) (m ∷ ls)
spaced close true before m ls h = h before
spaced close false before m ls h = said_space before (spaced_by close (m ∷ ls)) (m ∷ ls) (h (before ++ 32 ∷ []))

-- tokens that stand apart are read again
read_back : (close : Lexeme → Lexeme → Bool) (ls : List Lexeme) → AllByRecursion IsSound ls → IsApart close ls → (before : List ℕ) → Said (before ++ spaced_by close ls) (length before) (spaced_by close ls) ls
read_back close [] h a before = record { its_tokens = []; lexed = refl; say = refl }
read_back close (l ∷ []) h a before =
    let none : Said ((before ++ text_for l) ++ []) (length (before ++ text_for l)) [] [] = record { its_tokens = []; lexed = refl; say = refl } in
    let P : List ℕ → Type 0 = λ bs. Said (before ++ bs) (length before) bs (l ∷ []) in
    subst P (append-nil (text_for l)) (said_token before l [] [] h.0 (may_end_line l) none)
read_back close (l ∷ m ∷ ls) h a before =
    said_token before l (gap_by close l m ++ spaced_by close (m ∷ ls)) (m ∷ ls) h.0 a.0
    (spaced close (close l m) (before ++ text_for l) m ls (read_back close (m ∷ ls) h.1 a.1))

-- a statement whose tokens stand apart is this statement
spaced_statement : (close : Lexeme → Lexeme → Bool) (s : Statement) → IsWhole s → AllByRecursion IsSound (statement_tokens s) → IsApart close (statement_tokens s) → IsStatement (spaced_by close (statement_tokens s)) s
spaced_statement close s w sound apart =
    let r = read_back close (statement_tokens s) sound apart [] in
    record { its_tokens = r.its_tokens; lexed = r.lexed; spelled = (w, capitals, in_capitals, inl r.say) }

-- the printed form of a statement is this statement
pub printed_statement : (s : Statement) → IsWhole s → AllByRecursion IsSound (statement_tokens s) → IsStatement (printed_form s) s
printed_statement s w sound = spaced_statement joins s w sound (printed_apart (statement_tokens s))

-- and so is the short form where its tokens stand apart
pub short_statement : (s : Statement) → IsWhole s → AllByRecursion IsSound (statement_tokens s) → IsApart joins_short (statement_tokens s) → IsStatement (short_form s) s
short_statement s w sound apart = spaced_statement joins_short s w sound apart

same_found : (a b : Result (State × Parts) (List Lexeme)) (x y : State × Parts) → a ≡ b → a ≡ Ok x → b ≡ Ok y → x ≡ y
same_found a b x y e f g = cc

same_some : (o : Option Statement) (s t : Statement) → o ≡ Some s → o ≡ Some t → s ≡ t
same_some o s t e f = cc

same_lexed : (o : Result (List Token) ℕ) (ts us : List Token) → o ≡ Ok ts → o ≡ Ok us → ts ≡ us
same_lexed o ts us e f = cc

-- a line is one statement at most
pub one_statement : (line : List ℕ) (s t : Statement) → IsStatement line s → IsStatement line t → s ≡ t
one_statement line s t a b =
    let same = same_lexed (tokens line) a.its_tokens b.its_tokens a.lexed b.lexed in
    let x = spelled_read (lexemes line a.its_tokens) s a.spelled in
    let y = spelled_read (lexemes line b.its_tokens) t b.spelled in
    let there = same_found (walk Start no_parts (lexemes line a.its_tokens)) (walk Start no_parts (lexemes line b.its_tokens)) (x.to, x.parts) (y.to, y.parts) (ap (λ ts. walk Start no_parts (lexemes line ts)) same) x.read y.read in
    same_some (finished x.to x.parts) s t x.finished_there (ap (λ (m : State × Parts). finished m.0 m.1) there ∙ y.finished_there)
