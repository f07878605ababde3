use Rattle.sql_lexer.proofs.Exactly as exactly
use Rattle.sql_lexer.proofs.laws.tokens_are_longest.Goals as goal

pub returns : goal.returns
returns c = exactly.tokens_are_longest
