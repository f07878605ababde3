use Rattle.cmd_certify.proofs.MoreLines.{certifying-stays}
use Rattle.cmd_certify.proofs.laws.certifying_stays.Goals as goal

pub returns : goal.returns
returns c = certifying-stays
