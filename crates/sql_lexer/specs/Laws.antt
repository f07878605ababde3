-- What holds of the tokens of every line.
use Rattle.std.specs.Prelude.{◌≡◌, ◌↔◌, ℕ, List, Ok, Err, Contains}
use Rattle.sql_lexer.specs.declared.token.Token.{Token}
use Rattle.sql_lexer.specs.Tokens.{tokens}
use Rattle.sql_lexer.specs.Standing.{IsLongest, StandFrom, IsStuck}

-- no text of the line that begins where a token does and is longer is a token
abbrev pub TokensAreLongest : Type 0
TokensAreLongest = (line : List ℕ) → (ts : List Token) → tokens line ≡ Ok ts → (t : Token) → Contains ts t → IsLongest line t.from t.to

-- the tokens of a line are those that stand in it one behind the other, each the longest at its place, with blanks alone between them
abbrev pub StandingIsFound : Type 0
StandingIsFound = (line : List ℕ) → (ts : List Token) → (tokens line ≡ Ok ts) ↔ StandFrom line 0 ts

-- a line has no tokens exactly where tokens stand in it up to a place at which none begins
abbrev pub StuckIsFault : Type 0
StuckIsFault = (line : List ℕ) → (at : ℕ) → (tokens line ≡ Err at) ↔ IsStuck line 0 at
