use Rattle.cmd_certify.proofs.OneChecked.{one-checked}
use Rattle.cmd_certify.proofs.laws.one_answer.Goals as goal

pub returns : goal.returns
returns c = one-checked
