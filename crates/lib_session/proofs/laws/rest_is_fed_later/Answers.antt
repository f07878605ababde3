use Rattle.lib_session.proofs.Pieces.{rest_is_fed_later}
use Rattle.lib_session.proofs.laws.rest_is_fed_later.Goals as goal

pub returns : goal.returns
returns c = rest_is_fed_later
