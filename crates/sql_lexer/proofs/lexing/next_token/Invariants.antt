use Rattle.std.proofs.Common.{◌≤◌, ◌-◌, length, Option, Result}
use Rattle.sql_lexer.specs.declared.token.Token.{Token}
use Rattle.sql_lexer.specs.declared.token.LexError.{LexError}
use Rattle.sql_lexer.specs.Standing.{IsNext}
use Rattle.sql_lexer.proofs.lexing.next_token.Given as goal

-- what stands next here stands next from the place on
abbrev pub invariant-loop-at : goal.invariant-loop-at
invariant-loop-at l = record {
  back : (r : Result (Option Token) LexError) → IsNext l.line l.at r → IsNext l.line l.place r;
  inside : l.at ≤ length l.line;
}

abbrev pub decreases-loop-at : goal.decreases-loop-at
decreases-loop-at l = length l.line - l.at
