-- Texts that are no statement within the limits.
use Rattle.std.proofs.Common.{◌≡◌, ℕ, inl, inr, Bool, true, false, List, [], ◌∷◌, ◌++◌, refl, sym, ap, ◌∙◌, Ok}
use Rattle.std.proofs.lemmas.Bool.{false≢true}
use Rattle.sql_lexer.specs.declared.token.Token.{Token}
use Rattle.sql_lexer.specs.declared.token.TokenKind.{TokenKind}
use Rattle.sql_lexer.specs.declared.token.TokenKind.TheVariants as kinds
use Rattle.sql_lexer.specs.Tokens.{tokens}
use Rattle.sql_catalog.specs.Streams.{Shape}
use Rattle.sql_parser.specs.declared.parsing.ParseError.{ParseError}
use Rattle.sql_parser.specs.declared.parsing.ParseError.TheVariants as parse_errors
use Rattle.sql_parser.specs.declared.tree.Statement.{Statement}
use Rattle.sql_parser.specs.declared.tree.Statement.TheVariants as statements
use Rattle.sql_parser.specs.Grammar.{Lexeme, word, key, FreeWords, tokens_with, written, semicolon, Spells}
use Rattle.sql_parser.specs.Syntax.{IsStatement, lexemes, lexeme_as}
use Rattle.sql_parser.specs.Refusal.{IsRefusal}
use Rattle.sql_printer.proofs.RoundTrip.{faults_are_none}
use Rattle.sql_replies.specs.declared.refusal.Refusal.TheVariants.{Syntax}
use Rattle.sql_replies.specs.Words.{parse_refusal}
use Rattle.sql_script.specs.Script.{Creates, IsScriptStatement, refused, outside, misplaced, limited}
use Rattle.sql_script.specs.Creations.{is_create_key, is_create, begin_with_create}

-- whether the first of what tokens say is CREATE
abbrev says_create : Lexeme → Bool
says_create (key k) = is_create_key k
says_create _ = false

abbrev first_says_create : List Lexeme → Bool
first_says_create [] = false
first_says_create (l ∷ ls) = says_create l

-- whether the statement creates a stream or a query
abbrev creates : Statement → Bool
creates (statements.CreateStream name columns) = true
creates (statements.CreateQuery name select shared) = true
creates _ = false

kind_says : (k : TokenKind) (w : List ℕ) → is_create k ≡ says_create (lexeme_as k w)
kind_says kinds.Word w = refl
kind_says (kinds.Reserved k) w = refl
kind_says kinds.Integer w = refl
kind_says kinds.Comma w = refl
kind_says kinds.Point w = refl
kind_says kinds.Open w = refl
kind_says kinds.Close w = refl
kind_says kinds.Less w = refl
kind_says kinds.Equal w = refl
kind_says kinds.Greater w = refl
kind_says kinds.LessEqual w = refl
kind_says kinds.GreaterEqual w = refl
kind_says kinds.Unequal w = refl
kind_says kinds.Semi w = refl

tokens_say : (text : List ℕ) (ts : List Token) → begin_with_create (Ok ts) ≡ first_says_create (lexemes text ts)
tokens_say text [] = refl
tokens_say text (t ∷ ts) = kind_says t.kind _

statement_says : (w : FreeWords (List ℕ)) (s : Statement) → first_says_create (tokens_with (written w) s) ≡ creates s
statement_says w (statements.CreateStream name columns) = refl
statement_says w _ = refl

ended_says : (w : FreeWords (List ℕ)) (s : Statement) → first_says_create (tokens_with (written w) s ++ semicolon ∷ []) ≡ creates s
ended_says w (statements.CreateStream name columns) = refl
ended_says w _ = refl

spelled_says : (ls : List Lexeme) (s : Statement) → Spells ls s → first_says_create ls ≡ creates s
spelled_says ls s (whole, w, is, inl e) = ap first_says_create e ∙ statement_says w s
spelled_says ls s (whole, w, is, inr e) = ap first_says_create e ∙ ended_says w s

text_says : (text : List ℕ) (s : Statement) → IsStatement text s → begin_with_create (tokens text) ≡ creates s
text_says text s is = ap begin_with_create is.lexed ∙ tokens_say text is.its_tokens ∙ spelled_says (lexemes text is.its_tokens) s is.spelled

does_create : (s : Statement) → creates s ≡ true → Creates s
does_create (statements.CreateStream name columns) e = tt
does_create (statements.CreateQuery name select shared) e = tt
does_create _ e = absurd (false≢true e)

creates_nothing : (s : Statement) → creates s ≡ false → ¬ (Creates s)
creates_nothing (statements.CreateStream name columns) e = absurd (false≢true (sym e))
creates_nothing (statements.CreateQuery name select shared) e = absurd (false≢true (sym e))
creates_nothing _ e = λ c. c

-- a text that begins with CREATE is refused by its own word
pub refused-create : (streams : List Shape) (text : List ℕ) (error : ParseError) → begin_with_create (tokens text) ≡ true → IsRefusal text error → IsScriptStatement streams text (refused (parse_refusal error))
refused-create streams text (parse_errors.Syntax at) begins fault = outside (λ s is. faults_are_none text at s fault is) refl
refused-create streams text (parse_errors.Limit what) begins (s, is, passed) = limited s what is (does_create s (sym (text_says text s is) ∙ begins)) passed refl

-- another text has no place
pub refused-other : (streams : List Shape) (text : List ℕ) (error : ParseError) → begin_with_create (tokens text) ≡ false → IsRefusal text error → IsScriptStatement streams text (refused Syntax)
refused-other streams text (parse_errors.Syntax at) begins fault = outside (λ s is. faults_are_none text at s fault is) refl
refused-other streams text (parse_errors.Limit what) begins (s, is, passed) = misplaced s is (creates_nothing s (sym (text_says text s is) ∙ begins)) refl
