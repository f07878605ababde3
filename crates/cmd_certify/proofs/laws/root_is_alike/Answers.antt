use Rattle.cmd_certify.proofs.Rooted.{root_is_alike}
use Rattle.cmd_certify.proofs.laws.root_is_alike.Goals as goal

pub returns : goal.returns
returns c = root_is_alike
