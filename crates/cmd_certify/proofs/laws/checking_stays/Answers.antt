use Rattle.cmd_certify.proofs.MoreLines.{checking-stays}
use Rattle.cmd_certify.proofs.laws.checking_stays.Goals as goal

pub returns : goal.returns
returns c = checking-stays
