use Rattle.cmd_certify.proofs.OneCertified.{alike}
use Rattle.cmd_certify.proofs.laws.certifies_once.Goals as goal

pub returns : goal.returns
returns c = alike
