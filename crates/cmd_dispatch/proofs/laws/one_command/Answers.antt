use Rattle.cmd_dispatch.proofs.OneCommand.{one_command}
use Rattle.cmd_dispatch.proofs.laws.one_command.Goals as goal

pub returns : goal.returns
returns c = one_command
