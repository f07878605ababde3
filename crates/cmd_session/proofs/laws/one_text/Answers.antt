use Rattle.cmd_session.proofs.OneAnswer.{one_text}
use Rattle.cmd_session.proofs.laws.one_text.Goals as goal

pub returns : goal.returns
returns c = one_text
