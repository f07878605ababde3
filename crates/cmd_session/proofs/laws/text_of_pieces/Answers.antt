use Rattle.cmd_session.proofs.LineRuns.{answers_piece_by_piece}
use Rattle.cmd_session.proofs.laws.text_of_pieces.Goals as goal

pub returns : goal.returns
returns c = answers_piece_by_piece
