use Rattle.cmd_lower.proofs.Found.{no-filter, plan-meets, form-found}
use Rattle.cmd_lower.proofs.finding.find_by_split.Goals as goal

pub parts_plan-requires : goal.parts_plan-requires
parts_plan-requires c = record { plain = no-filter c.args.script.now.query c.requires.formed }

pub returns-in-Ok : goal.returns-in-Ok
returns-in-Ok c = form-found c.args.script.now c.args.form c.requires.formed (plan-meets c.args.script.now.query c.in-Ok._plan c.in-Ok.ensures)

pub returns-in-Err-Limit : goal.returns-in-Err-Limit
returns-in-Err-Limit c = form-found c.args.script.now c.args.form c.requires.formed (rw c.in-Err-Limit.field-0-is at c.in-Err-Limit.ensures).0
