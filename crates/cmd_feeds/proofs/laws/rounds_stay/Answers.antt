use Rattle.cmd_feeds.proofs.Turns.{rounds-stay}
use Rattle.cmd_feeds.proofs.laws.rounds_stay.Goals as goal

pub returns : goal.returns
returns c = rounds-stay
