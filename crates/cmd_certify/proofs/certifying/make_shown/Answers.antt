use Rattle.std.proofs.Common.{refl}
use Rattle.cmd_certify.proofs.Certified.{certified_by}
use Rattle.cmd_certify.proofs.Judging.{compact_or_plain}
use Rattle.cmd_certify.proofs.certifying.make_shown.Goals as goal

pub make-requires : goal.make-requires
make-requires c = compact_or_plain c.args.script.now.query c.args.shown c.requires

pub returns-in-Ok : goal.returns-in-Ok
returns-in-Ok c = (
  c.lines-lines.ensures.are_lines,
  record { shown = c.args.shown; judged = c.requires; good = c.in-Ok.ensures.0 },
  certified_by c.args.script.now.query c.args.shown c.requires c.in-Ok.ensures.1,
)

pub returns-in-Err-Limit : goal.returns-in-Err-Limit
returns-in-Err-Limit c = (refl, record { shown = c.args.shown; judged = c.requires; large = rw c.in-Err-Limit.field-0-is at c.in-Err-Limit.ensures; is = refl })
