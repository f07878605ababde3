use Rattle.cmd_certify.proofs.Agreeing.{certificates_agree}
use Rattle.cmd_certify.proofs.laws.certificates_agree.Goals as goal

pub returns : goal.returns
returns c = certificates_agree
