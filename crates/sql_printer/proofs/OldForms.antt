-- The first token of a statement tells whether it locks or unlocks.
use Rattle.std.proofs.Common.{◌≡◌, ℕ, inl, inr, Bool, true, false, not, List, [], ◌∷◌, ◌++◌, Ok, refl, ap, ◌∙◌}
use Rattle.sql_lexer.specs.declared.token.Token.{Token}
use Rattle.sql_lexer.specs.declared.token.TokenKind.{TokenKind}
use Rattle.sql_lexer.specs.declared.token.TokenKind.TheVariants as kinds
use Rattle.sql_lexer.specs.Tokens.{tokens}
use Rattle.sql_parser.specs.declared.tree.Statement.{Statement}
use Rattle.sql_parser.specs.declared.tree.Statement.TheVariants.{CreateStream}
use Rattle.sql_parser.specs.Grammar.{Lexeme, key, semicolon, FreeWords, tokens_with, written, Spells}
use Rattle.sql_parser.specs.Syntax.{lexemes, lexeme_as}
use Rattle.sql_printer.specs.Laws.{is_reserved, begin_reserved, is_of_lock, OldFormsStay}

abbrev says_reserved : Lexeme → Bool
says_reserved (key k) = true
says_reserved _ = false

abbrev first_says : List Lexeme → Bool
first_says [] = false
first_says (l ∷ ls) = says_reserved l

kind_says : (k : TokenKind) (w : List ℕ) → is_reserved k ≡ says_reserved (lexeme_as k w)
kind_says kinds.Word w = refl
kind_says (kinds.Reserved k) w = refl
kind_says kinds.Integer w = refl
kind_says kinds.Comma w = refl
kind_says kinds.Point w = refl
kind_says kinds.Open w = refl
kind_says kinds.Close w = refl
kind_says kinds.Less w = refl
kind_says kinds.Equal w = refl
kind_says kinds.Greater w = refl
kind_says kinds.LessEqual w = refl
kind_says kinds.GreaterEqual w = refl
kind_says kinds.Unequal w = refl
kind_says kinds.Semi w = refl

tokens_say : (line : List ℕ) (ts : List Token) → begin_reserved (Ok ts) ≡ first_says (lexemes line ts)
tokens_say line [] = refl
tokens_say line (t ∷ ts) = kind_says t.kind _

statement_says : (w : FreeWords (List ℕ)) (s : Statement) → first_says (tokens_with (written w) s) ≡ not (is_of_lock s)
statement_says w (CreateStream name columns) = refl
statement_says w _ = refl

ended_says : (w : FreeWords (List ℕ)) (s : Statement) → first_says (tokens_with (written w) s ++ semicolon ∷ []) ≡ not (is_of_lock s)
ended_says w (CreateStream name columns) = refl
ended_says w _ = refl

spelled_says : (ls : List Lexeme) (s : Statement) → Spells ls s → first_says ls ≡ not (is_of_lock s)
spelled_says ls s (whole, w, is, inl e) = ap first_says e ∙ statement_says w s
spelled_says ls s (whole, w, is, inr e) = ap first_says e ∙ ended_says w s

pub old_forms_stay : OldFormsStay
old_forms_stay line s is = ap begin_reserved is.lexed ∙ tokens_say line is.its_tokens ∙ spelled_says (lexemes line is.its_tokens) s is.spelled
