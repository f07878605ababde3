use Rattle.cmd_lower.proofs.Lowered.{comes-whole, stops-behind, stops-unmade}
use Rattle.cmd_lower.proofs.lower_command.lower_script.Goals as goal

pub returns-in-Ok-read_blank-clause-reads : goal.returns-in-Ok-read_blank-clause-reads
returns-in-Ok-read_blank-clause-reads g c = λ source gave. (
  comes-whole c.args.form c.args.script c.in-Ok.finding source _ _ _ _ gave c.in-Ok.ensures.1 c.in-Ok.ensures.0
      (c.in-Ok-read_blank.ensures.blank source gave.front gave.given gave.lines),
  record { is = c.in-Ok.ensures.0; named = c.requires.named },
)

pub returns-in-Err-read_blank-clause-reads : goal.returns-in-Err-read_blank-clause-reads
returns-in-Err-read_blank-clause-reads g c = λ source gave.
    stops-behind c.args.form c.args.script c.in-Ok.finding c.in-Err-read_blank.stop source _ _ _ _ gave c.in-Ok.ensures.1 c.in-Ok.ensures.0
    (c.in-Err-read_blank.ensures.blank source gave.front gave.given gave.lines)

pub returns-in-Err-clause-reads : goal.returns-in-Err-clause-reads
returns-in-Err-clause-reads g c = λ source gave. stops-unmade c.args.form c.args.script c.in-Err.end source _ _ gave c.in-Err.ensures
