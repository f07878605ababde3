use Rattle.std.proofs.Common.{refl}
use Rattle.std.specs.Fmt.{digits}
use Rattle.cmd_load.specs.Script.{step, row}
use Rattle.cmd_load.proofs.laws.first_rows.Goals as goal

pub returns : goal.returns
unfolding step row digits
returns c = refl
