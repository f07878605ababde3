-- What is printed for a statement is read as this statement.
use Rattle.std.proofs.Common.{◌≡◌, ℕ, ◌≤◌, Bool, true, false, cond, not, nat_le, length, ◌||◌, List, [], ◌∷◌, ◌++◌, suc, flat_map, codes, None, refl, ap, sym, ◌∙◌, subst, arith, IsTrue, All, inl, inr, Result, Ok, Err, append_assoc}
use Rattle.std.specs.List.{list_any, AllByRecursion}
use Rattle.sql_text.specs.Name.{is_name}
use Rattle.sql_text.specs.Value.{fits_i64}
use Rattle.sql_lexer.specs.declared.token.Token.{Token}
use Rattle.sql_lexer.specs.Tokens.{tokens}
use Rattle.sql_parser.specs.declared.tree.Statement.{Statement}
use Rattle.sql_parser.specs.Grammar.{Lexeme, word, number, key, comma, point, opening, closing, less, equal, greater, less_equal, greater_equal, unequal, semicolon, no_words, capitals, tokens_with, statement_tokens, Spells}
use Rattle.sql_parser.specs.Syntax.{lexemes, lexeme_of, IsStatement, IsFaultOf, StopsAt}
use Rattle.sql_parser.specs.Limits.{word_in, number_in, names_of, limit_of, is_wide}
use Rattle.sql_printer.specs.Laws.{PrintsBack, ShortReadsBack, CreatesAgain, CreateLinesFit, FaultsAreNone}
use Rattle.sql_printer.specs.Printed.{printed_form, short_form}
use Rattle.sql_parser.specs.declared.tree.Statement.TheVariants.{CreateQuery}
use Rattle.sql_parser.proofs.Compact.{are_names, all_with, numbers_without}
use Rattle.sql_printer.proofs.ShortApart.{query_apart}
use Rattle.sql_printer.proofs.Shortest.{short_is_shortest}
use Rattle.std.proofs.lemmas.Bool.Decides.{nat_tests}
use Rattle.sql_parser.proofs.Said.{or_right}
use Rattle.sql_printer.proofs.Spaced.{IsSound}
use Rattle.sql_printer.proofs.ReadBack.{printed_statement, short_statement}
use Rattle.sql_parser.proofs.Within.{all_fit}
use Rattle.std.proofs.lemmas.List.{map-append}

or_left : (a b : Bool) → (a || b) ≡ false → a ≡ false
or_left true b h = cc
or_left false b h = refl

is_fit : (b : Bool) → not b ≡ false → b ≡ true
is_fit true h = refl
is_fit false h = let e : true ≡ false = h in cc

-- names are names and integers fit, so the tokens are those of a line
sound : (ls : List Lexeme) → All (λ n. IsTrue (is_name n)) (flat_map word_in ls) → list_any is_wide (flat_map number_in ls) ≡ false → AllByRecursion IsSound ls
sound [] n z = tt
sound (word w ∷ ls) n z = (n 0 w (omega arith), sound ls (λ i d lt. n (suc i) d (omega arith)) z)
sound (number k ∷ ls) n z = (is_fit (fits_i64 k) (or_left (is_wide k) _ z), sound ls n (or_right (is_wide k) _ z))
sound (key k ∷ ls) n z = (tt, sound ls n z)
sound (comma ∷ ls) n z = (tt, sound ls n z)
sound (point ∷ ls) n z = (tt, sound ls n z)
sound (opening ∷ ls) n z = (tt, sound ls n z)
sound (closing ∷ ls) n z = (tt, sound ls n z)
sound (less ∷ ls) n z = (tt, sound ls n z)
sound (equal ∷ ls) n z = (tt, sound ls n z)
sound (greater ∷ ls) n z = (tt, sound ls n z)
sound (less_equal ∷ ls) n z = (tt, sound ls n z)
sound (greater_equal ∷ ls) n z = (tt, sound ls n z)
sound (unequal ∷ ls) n z = (tt, sound ls n z)
sound (semicolon ∷ ls) n z = (tt, sound ls n z)

-- and so are those of a statement
all_sound : (s : Statement) → All (λ n. IsTrue (is_name n)) (names_of s) → limit_of s ≡ None → AllByRecursion IsSound (statement_tokens s)
all_sound s names within = all_with IsSound capitals s are_names (sound (tokens_with no_words s) names (ap (list_any is_wide) (numbers_without s) ∙ all_fit s within))

pub prints_back : PrintsBack
prints_back s whole names within = printed_statement s whole (all_sound s names within)

pub short_reads_back : ShortReadsBack
short_reads_back name select shared whole names within =
    let s = CreateQuery name select shared in
    let all = all_sound s names within in
    short_statement s whole all (query_apart name select shared all)

one_of_two : (b : Bool) (s : Statement) → IsStatement (printed_form s) s → IsStatement (short_form s) s → IsStatement (cond b (printed_form s) (short_form s)) s
one_of_two true s p q = p
one_of_two false s p q = q

pub creates_again : CreatesAgain
creates_again name select shared whole names within =
    let s = CreateQuery name select shared in
    one_of_two (nat_le (length (printed_form s)) 1024) s (prints_back s whole names within) (short_reads_back name select shared whole names within)

short_enough : (b : Bool) (p q : List ℕ) → b ≡ nat_le (length p) 1024 → length q ≤ 1024 → length (cond b p q) ≤ 1024
short_enough true p q e h = le_from (length p) (sym e)
  where
    le_from : (n : ℕ) → nat_le n 1024 ≡ true → n ≤ 1024
    le_from n h = grind (arith, nat_tests)
short_enough false p q e h = h

pub create_lines_fit : CreateLinesFit
create_lines_fit line s is within short =
    let shortest = short_is_shortest line s is within in
    short_enough (nat_le (length (printed_form s)) 1024) (printed_form s) (short_form s) refl (omega (arith, shortest, short))

-- tokens that stop cannot spell a statement
stops_spelling : (line : List ℕ) (ts : List Token) (at : ℕ) (s : Statement) → StopsAt line ts at → Spells (lexemes line ts) s → ⊥
stops_spelling line ts at s stops spells =
    let front = lexemes line stops.front in
    let stop = lexeme_of line stops.stop in
    let rest = lexemes line stops.after in
    let P : List Lexeme → Type 0 = λ ls. Spells ls s in
    let whole : lexemes line ts ≡ (front ++ stop ∷ []) ++ rest = ap (lexemes line) stops.whole ∙ map-append (lexeme_of line) stops.front (stops.stop ∷ stops.after) ∙ sym (append_assoc front (stop ∷ []) rest) in
    stops.no_more (rest, s, subst P whole spells)

no_fault : (line : List ℕ) (r : Result (List Token) ℕ) (ts : List Token) (at : ℕ) (s : Statement) → r ≡ Ok ts → IsFaultOf line r at → Spells (lexemes line ts) s → ⊥
no_fault line (Err place) ts at s e fault spells = cc
no_fault line (Ok us) ts at s e fault spells =
    let same : us ≡ ts = cc in
    let P : List Token → Type 0 = λ vs. Spells (lexemes line vs) s in
    let spelled = subst P (sym same) spells in
    elim fault [
      | inl stops ↦ stops_spelling line us at s stops spelled
      | inr early ↦ early.no_statement s spelled
    ]

pub faults_are_none : FaultsAreNone
faults_are_none line at s fault is = no_fault line (tokens line) is.its_tokens at s is.lexed fault is.spelled
