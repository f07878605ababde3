use Rattle.cmd_certify.proofs.Rooted.{certified_are_checked}
use Rattle.cmd_certify.proofs.laws.certified_are_checked.Goals as goal

pub returns : goal.returns
returns c = certified_are_checked
