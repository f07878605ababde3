use Rattle.cmd_session.proofs.Alike.{one_checkpoint}
use Rattle.cmd_session.proofs.laws.alike_states_have_one_checkpoint.Goals as goal

pub returns : goal.returns
returns c = one_checkpoint
