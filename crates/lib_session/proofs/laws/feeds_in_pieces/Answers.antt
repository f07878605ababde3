use Rattle.lib_session.proofs.Pieces.{feeds_in_pieces}
use Rattle.lib_session.proofs.laws.feeds_in_pieces.Goals as goal

pub returns : goal.returns
returns c = feeds_in_pieces
