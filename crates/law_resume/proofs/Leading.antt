-- Lines that lead from one state to another.
use Rattle.std.proofs.Common.{◌≡◌, ℕ, ◌≤◌, false, ◌||◌, List, [], ◌∷◌, ◌++◌, length, flat_map, None, refl, sym, ap, ◌∙◌, subst}
use Rattle.std.specs.List.{list_any, AllByRecursion}
use Rattle.std.proofs.lemmas.List.Elements.{All-append, All-cons, All-nil}
use Rattle.sql_parser.specs.declared.line.LineKind.{LineKind}
use Rattle.sql_parser.specs.declared.tree.Statement.{Statement}
use Rattle.sql_parser.specs.Grammar.{Lexeme, word, number, key, comma, point, opening, closing, less, equal, greater, less_equal, greater_equal, unequal, semicolon}
use Rattle.sql_parser.specs.Limits.{limit_of, word_in, is_long}
use Rattle.sql_parser.specs.LineKind.{kind_of_line}
use Rattle.sql_parser.specs.Syntax.{IsStatement}
use Rattle.sql_parser.proofs.Names.{name_facts}
use Rattle.sql_printer.proofs.Spaced.{IsSound}
use Rattle.cmd_session.specs.Answer.{Answer}
use Rattle.cmd_session.specs.Answers.{IsAnswer}
use Rattle.cmd_session.specs.Replies.{AreAnswers}
use Rattle.cmd_session.specs.Requests.{statement_request, stated, IsTextRequest, IsRequest, fits}
use Rattle.cmd_session.specs.Lock.{Lets}
use Rattle.cmd_session.specs.State.{State, next_of, after}
use Rattle.cmd_session.proofs.ResumeTexts.{not_long}
use Rattle.law_resume.specs.Restores.{IsOneLine, LeadsTo, is_refused}
use Rattle.law_resume.proofs.PrintedLines.{IsStatementText}

-- what the line of a statement asks for
pub line_asks : (s : State) (x : Statement) (line : List ℕ) → s.lock ≡ None → IsStatementText line → IsStatement line x → limit_of x ≡ None → length line ≤ 1024 → IsRequest s line (statement_request s x)
line_asks s x line none text is within short =
    fits short (subst (λ l. Lets l s.streams line) (sym none) tt)
    (subst (λ u. IsTextRequest s (kind_of_line u) u (statement_request s x)) (sym text.left)
    (subst (λ (k : LineKind). IsTextRequest s k line (statement_request s x)) (sym text.kind) (stated x is within refl)))

-- the line is not refused
abbrev IsTaken : Answer → Type 0
IsTaken answer = is_refused answer ≡ false

-- no line leads nowhere else
pub no_line : (s : State) → LeadsTo s [] s
unfolding after
no_line s = record { answers = []; answered = tt; is = refl; whole = All-nil IsOneLine; taken = All-nil IsTaken }

pub one_line : (s t : State) (line : List ℕ) (answer : Answer) → IsOneLine line → is_refused answer ≡ false → IsAnswer s line answer → next_of s answer ≡ t → LeadsTo s (line ∷ []) t
unfolding after
one_line s t line answer whole fine is e = record { answers = answer ∷ []; answered = (is, tt); is = e; whole = All-cons IsOneLine line [] whole (All-nil IsOneLine); taken = All-cons IsTaken answer [] fine (All-nil IsTaken) }

-- lines, and then others
pub answers_joined : (s : State) (a b : List (List ℕ)) (xs ys : List Answer) → AreAnswers s a xs → AreAnswers (after s xs) b ys → AreAnswers s (a ++ b) (xs ++ ys)
unfolding after
answers_joined s [] b [] ys h k = k
answers_joined s [] b (x ∷ xs) ys h k = absurd h
answers_joined s (l ∷ a) b [] ys h k = absurd h
answers_joined s (l ∷ a) b (x ∷ xs) ys h k = (h.0, answers_joined (next_of s x) a b xs ys h.1 k)

pub after_joined : (s : State) (xs ys : List Answer) → after s (xs ++ ys) ≡ after (after s xs) ys
unfolding after
after_joined s [] ys = refl
after_joined s (x ∷ xs) ys = after_joined (next_of s x) xs ys

pub joined : (s t u : State) (a b : List (List ℕ)) → LeadsTo s a t → LeadsTo t b u → LeadsTo s (a ++ b) u
joined s t u a b first rest = record {
  answers = first.answers ++ rest.answers;
  answered = answers_joined s a b first.answers rest.answers first.answered (subst (λ (x : State). AreAnswers x b rest.answers) (sym first.is) rest.answered);
  is = after_joined s first.answers rest.answers ∙ ap (λ (x : State). after x rest.answers) first.is ∙ rest.is;
  whole = All-append IsOneLine a b first.whole rest.whole;
  taken = All-append IsTaken first.answers rest.answers first.taken rest.taken;
}

-- the names among such tokens are short
pub names_short : (ls : List Lexeme) → AllByRecursion IsSound ls → list_any is_long (flat_map word_in ls) ≡ false
names_short [] h = refl
names_short (word w ∷ ls) h = ap (λ b. b || list_any is_long (flat_map word_in ls)) (not_long w (name_facts w h.0).short) ∙ names_short ls h.1
names_short (number z ∷ ls) h = names_short ls h.1
names_short (key k ∷ ls) h = names_short ls h.1
names_short (comma ∷ ls) h = names_short ls h.1
names_short (point ∷ ls) h = names_short ls h.1
names_short (opening ∷ ls) h = names_short ls h.1
names_short (closing ∷ ls) h = names_short ls h.1
names_short (less ∷ ls) h = names_short ls h.1
names_short (equal ∷ ls) h = names_short ls h.1
names_short (greater ∷ ls) h = names_short ls h.1
names_short (less_equal ∷ ls) h = names_short ls h.1
names_short (greater_equal ∷ ls) h = names_short ls h.1
names_short (unequal ∷ ls) h = names_short ls h.1
names_short (semicolon ∷ ls) h = names_short ls h.1
