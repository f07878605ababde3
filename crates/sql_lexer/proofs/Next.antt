-- What stands next in a line.
use Rattle.std.proofs.Common.{◌≡◌, ℕ, ◌+◌, ◌<◌, true, false, ◌∷◌, List, length, drop, get_or, Option, Some, None, Result, Ok, Err, ◌∙◌, arith, length-drop, refl}
use Rattle.std.proofs.lemmas.List.{drop_more}
use Rattle.sql_lexer.specs.declared.token.TokenKind.{TokenKind}
use Rattle.sql_lexer.specs.declared.token.Token.{Token}
use Rattle.sql_lexer.specs.declared.token.LexError.{LexError}
use Rattle.sql_lexer.specs.Tokens.{is_blank, longest}
use Rattle.sql_lexer.specs.Standing.{IsNextToken, IsNext}
use Rattle.sql_lexer.proofs.TokenLists.{blank_step, token_step}
use Rattle.sql_lexer.proofs.Standing.{one_blank, found_next}

-- the bytes from a place on begin with the one there
from_place : (line : List ℕ) (place : ℕ) → place < length line → drop place line ≡ get_or line place 0 ∷ drop (place + 1) line
from_place line place lt = drop_more line place 0 lt

-- a blank more stands before it
blank_token : (line : List ℕ) (place : ℕ) (t : Token) → place < length line → is_blank (get_or line place 0) ≡ true → IsNextToken line (place + 1) t → IsNextToken line place t
blank_token line place t lt blank n = record {
  behind = omega (arith, n.behind);
  blanks = one_blank line (drop (place + 1) line) place t.from (get_or line place 0) (from_place line place lt) blank n.behind n.blanks;
  has_bytes = n.has_bytes;
  inside = n.inside;
  kind = n.kind;
  longest = n.longest;
}

-- what stands next stands next behind a blank
pub blank_next : (line : List ℕ) (place : ℕ) (r : Result (Option Token) LexError) → place < length line → is_blank (get_or line place 0) ≡ true → IsNext line (place + 1) r → IsNext line place r
blank_next line place (Ok (Some t)) lt blank n = (blank_token line place t lt blank n.0, blank_step line place lt blank ∙ n.1)
blank_next line place (Ok None) lt blank n = blank_step line place lt blank ∙ n
blank_next line place (Err fault) lt blank n = blank_step line place lt blank ∙ n

-- the longest token at a place at which no blank stands is the next one
pub token_next : (line : List ℕ) (place len : ℕ) (kind : TokenKind) → place < length line → is_blank (get_or line place 0) ≡ false → longest (drop place line) ≡ Some (kind, len) → 0 < len → IsNext line place (Ok (Some (record { kind = kind; from = place; to = place + len })))
token_next line place len kind lt solid found more =
    (found_next line (drop place line) place (kind, len) refl (omega (arith, lt, length-drop place line)) found, token_step line place len kind lt solid found more)
