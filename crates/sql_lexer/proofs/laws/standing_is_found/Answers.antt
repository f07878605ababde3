use Rattle.sql_lexer.proofs.Exactly as exactly
use Rattle.sql_lexer.proofs.laws.standing_is_found.Goals as goal

pub returns : goal.returns
returns c = exactly.standing_is_found
