use Rattle.std.proofs.Common.{refl}
use Rattle.sql_script.proofs.Endings.{stops-early}
use Rattle.cmd_lower.specs.Lowering.{Lowers}
use Rattle.cmd_lower.specs.Lowering as lowering
use Rattle.cmd_lower.proofs.OneOutcome.{needs-one}
use Rattle.cmd_lower.proofs.lower_command.read_lowered.Goals as goal

pub lower_script-requires : goal.lower_script-requires
lower_script-requires g c = record { named = c.in-Ok.ensures.reads.named }

pub returns-in-Ok-clause-reads : goal.returns-in-Ok-clause-reads
returns-in-Ok-clause-reads g c = c.lower_script.ensures.reads _ c.in-Ok.ensures.reads

pub returns-in-Err-clause-reads : goal.returns-in-Err-clause-reads
returns-in-Err-clause-reads g c =
    stops-early (Lowers c.args.form) (λ all number word is. lowering.early number word is refl) (needs-one c.args.form) c.in-Err.end _ _ _ c.in-Err.ensures.reads
