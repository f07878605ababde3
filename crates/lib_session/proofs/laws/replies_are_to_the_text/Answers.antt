use Rattle.lib_session.proofs.Pieces.{replies_are_to_the_text}
use Rattle.lib_session.proofs.laws.replies_are_to_the_text.Goals as goal

pub returns : goal.returns
returns c = replies_are_to_the_text
