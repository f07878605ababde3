use Rattle.exec_query.proofs.Standings.{standing-is-ready}
use Rattle.exec_query.proofs.laws.standing_is_ready.Goals as goal

pub returns : goal.returns
returns c = standing-is-ready
