use Rattle.std.proofs.Common.{◌≡◌, ◌≤◌, ◌-◌, length, drop}
use Rattle.sql_lexer.specs.Tokens.{tokens, tokens_from}
use Rattle.sql_lexer.proofs.TokenLists.{after}
use Rattle.sql_lexer.proofs.lexing.lex.Given as goal

-- the tokens of the line are those so far and those of what is left
abbrev pub invariant-loop-at : goal.invariant-loop-at
invariant-loop-at l = record {
  told : tokens l.line ≡ after l.tokens.items (tokens_from 0 l.at (drop l.at l.line));
  room : length l.tokens.items ≤ l.at;
  inside : l.at ≤ length l.line;
}

abbrev pub decreases-loop-at : goal.decreases-loop-at
decreases-loop-at l = length l.line - l.at
