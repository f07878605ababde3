use Rattle.sql_text.proofs.LinesInPieces.{cuts_at_line_end}
use Rattle.sql_text.proofs.laws.lines_of_pieces.Goals as goal

pub returns : goal.returns
returns c = cuts_at_line_end
