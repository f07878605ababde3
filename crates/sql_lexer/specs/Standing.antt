-- Where the tokens of a line stand in it.
use Rattle.std.specs.Prelude.{◌≡◌, ℕ, ◌<◌, ◌≤◌, true, false, List, [], ◌∷◌, length, drop, get_or, slice_range, Option, Some, None, Result, Ok, Err}
use Rattle.std.specs.List.{list_all}
use Rattle.sql_lexer.specs.declared.token.Token.{Token}
use Rattle.sql_lexer.specs.declared.token.LexError.{LexError}
use Rattle.sql_lexer.specs.Tokens.{is_blank, kind_of, tokens_at, with_first}

-- no text of the line that begins at `from` and ends behind `to` is a token
abbrev pub IsLongest : List ℕ → ℕ → ℕ → Type 0
IsLongest line from to = (end : ℕ) → to < end → end ≤ length line → kind_of (slice_range line from end) ≡ None

-- the token takes a text of its kind, behind a place and blanks alone, and no longer text there is a token
pub record IsNextToken (line : List ℕ) (place : ℕ) (t : Token) : Type 0 where
  pub behind : place ≤ t.from
  pub blanks : list_all is_blank (slice_range line place t.from) ≡ true
  pub has_bytes : t.from < t.to
  pub inside : t.to ≤ length line
  pub kind : kind_of (slice_range line t.from t.to) ≡ Some t.kind
  pub longest : IsLongest line t.from t.to

-- what stands next from a place on: a token before those behind it, blanks alone, or what begins no token
abbrev pub IsNext : List ℕ → ℕ → Result (Option Token) LexError → Type 0
IsNext line place (Ok (Some t)) = IsNextToken line place t × (tokens_at line place ≡ with_first t (tokens_at line t.to))
IsNext line place (Ok None) = tokens_at line place ≡ Ok []
IsNext line place (Err fault) = tokens_at line place ≡ Err fault.at

-- from a place on the tokens stand in order and without overlap, and blanks alone stand between them and behind the last
abbrev pub StandFrom : List ℕ → ℕ → List Token → Type 0
StandFrom line place [] = list_all is_blank (drop place line) ≡ true
StandFrom line place (t ∷ ts) = IsNextToken line place t × StandFrom line t.to ts

-- from a place up to an end the tokens stand in order and without overlap, and blanks alone stand between them and before the end
abbrev pub StandUpTo : List ℕ → ℕ → ℕ → List Token → Type 0
StandUpTo line place end [] = (place ≤ end) × (list_all is_blank (slice_range line place end) ≡ true)
StandUpTo line place end (t ∷ ts) = IsNextToken line place t × StandUpTo line t.to end ts

-- from a place on tokens stand up to `at`, where there is a byte that is no blank, and no text that begins there is a token
pub record IsStuck (line : List ℕ) (place at : ℕ) : Type 0 where
  pub before : List Token
  pub stand : StandUpTo line place at before
  pub inside : at < length line
  pub no_blank : is_blank (get_or line at 0) ≡ false
  pub none : IsLongest line at at
