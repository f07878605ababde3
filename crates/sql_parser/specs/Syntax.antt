-- What a line says as a statement, and where it stops being one.
use Rattle.std.specs.Prelude.{◌≡◌, ℕ, ◌⊎◌, List, [], ◌∷◌, ◌++◌, length, map, slice_range, Option, Some, None, Result, Ok, Err}
use Rattle.sql_text.specs.Value.{integer}
use Rattle.sql_lexer.specs.declared.token.TokenKind.{TokenKind}
use Rattle.sql_lexer.specs.declared.token.TokenKind.TheVariants.{Word, Reserved, Integer, Comma, Point, Open, Close, Less, Equal, Greater, LessEqual, GreaterEqual, Unequal, Semi}
use Rattle.sql_lexer.specs.declared.token.Token.{Token}
use Rattle.sql_lexer.specs.Tokens.{tokens}
use Rattle.sql_parser.specs.declared.tree.Statement.{Statement}
use Rattle.sql_parser.specs.declared.transitions.State.{State}
use Rattle.sql_parser.specs.declared.transitions.Action.{Action}
use Rattle.sql_parser.specs.Grammar.{Lexeme, word, number, key, comma, point, opening, closing, less, equal, greater, less_equal, greater_equal, unequal, semicolon, Spells, Begins}
use Rattle.sql_parser.specs.Steps.{step_of}

-- what a text of a kind says
abbrev pub lexeme_as : TokenKind → List ℕ → Lexeme
lexeme_as Word w = word w
lexeme_as (Reserved k) w = key k
lexeme_as Integer w = number (integer w)
lexeme_as Comma w = comma
lexeme_as Point w = point
lexeme_as Open w = opening
lexeme_as Close w = closing
lexeme_as Less w = less
lexeme_as Equal w = equal
lexeme_as Greater w = greater
lexeme_as LessEqual w = less_equal
lexeme_as GreaterEqual w = greater_equal
lexeme_as Unequal w = unequal
lexeme_as Semi w = semicolon

-- what a token of a line says
abbrev pub lexeme_of : List ℕ → Token → Lexeme
lexeme_of line t = lexeme_as t.kind (slice_range line t.from t.to)

-- what the tokens of a line say
abbrev pub lexemes : List ℕ → List Token → List Lexeme
lexemes line ts = map (lexeme_of line) ts

-- the line is spelled as the statement
pub record IsStatement (line : List ℕ) (s : Statement) : Type 0 where
  pub its_tokens : List Token
  pub lexed : tokens line ≡ Ok its_tokens
  pub spelled : Spells (lexemes line its_tokens) s

-- at the first token that, with those before it, begins no statement
pub record StopsAt (line : List ℕ) (ts : List Token) (at : ℕ) : Type 0 where
  pub front : List Token
  pub stop : Token
  pub after : List Token
  pub whole : ts ≡ front ++ stop ∷ after
  pub place : at ≡ stop.from
  pub begins : Begins (lexemes line front)
  pub no_more : Begins (lexemes line front ++ lexeme_of line stop ∷ []) → ⊥

-- at the end of the line, where the tokens begin a statement and are none
pub record EndsEarly (line : List ℕ) (ts : List Token) (at : ℕ) : Type 0 where
  pub place : at ≡ length line
  pub begins : Begins (lexemes line ts)
  pub no_statement : (s : Statement) → Spells (lexemes line ts) s → ⊥

-- where no token begins, or else where the tokens leave the grammar
abbrev pub IsFaultOf : List ℕ → Result (List Token) ℕ → ℕ → Type 0
IsFaultOf line (Err place) at = at ≡ place
IsFaultOf line (Ok ts) at = StopsAt line ts at ⊎ EndsEarly line ts at

-- the place at which the line is outside the grammar
abbrev pub IsFault : List ℕ → ℕ → Type 0
IsFault line at = IsFaultOf line (tokens line) at

-- where a step leads, and on from there
abbrev pub after_step : Option (State × Action) → Token → (State → Result State ℕ) → Result State ℕ
after_step None t on = Err t.from
after_step (Some m) t on = on m.0

-- the state after the tokens of a line, or the place in the line of the first one that goes on nowhere
abbrev pub state_after : List ℕ → State → List Token → Result State ℕ
state_after line place [] = Ok place
state_after line place (t ∷ ts) = after_step (step_of place t.kind (slice_range line t.from t.to)) t (λ to. state_after line to ts)
