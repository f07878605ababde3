use Rattle.cmd_certify.proofs.WholeDecided.{whole_decision}
use Rattle.cmd_certify.proofs.laws.whole_decision.Goals as goal

pub returns : goal.returns
returns c = whole_decision
