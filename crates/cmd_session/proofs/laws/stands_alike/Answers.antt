use Rattle.cmd_session.proofs.Alike.{stands_alike}
use Rattle.cmd_session.proofs.laws.stands_alike.Goals as goal

pub returns : goal.returns
returns c = stands_alike
