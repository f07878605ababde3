use Rattle.sql_lexer.proofs.Exactly as exactly
use Rattle.sql_lexer.proofs.laws.stuck_is_fault.Goals as goal

pub returns : goal.returns
returns c = exactly.stuck_is_fault
