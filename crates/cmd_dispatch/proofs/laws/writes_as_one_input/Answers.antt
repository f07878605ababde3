use Rattle.cmd_dispatch.proofs.BehindFile.{as-one-input}
use Rattle.cmd_dispatch.proofs.laws.writes_as_one_input.Goals as goal

pub returns : goal.returns
returns c = as-one-input
