use Rattle.cmd_lower.proofs.Found.{joins, moved-shown, few-plainly, breaks-plainly}
use Rattle.cmd_lower.proofs.finding.find_moved.Goals as goal

pub returns-then-is_still : goal.returns-then-is_still
returns-then-is_still c =
    few-plainly c.args.script.now c.args.form c.args.part c.args.condition c.args.attr c.requires.plain c.requires.few c.requires.broken c.requires.all (c.is_still.ensures.few c.if-is_still.true)

pub found_family-requires-clause-counted : goal.found_family-requires-clause-counted
found_family-requires-clause-counted c = joins c.args.script.now.query _ c.requires.broken

pub returns-in-Ok-Some : goal.returns-in-Ok-Some
returns-in-Ok-Some c =
    moved-shown c.args.script.now c.args.form c.args.part c.args.condition c.in-Ok-Some.field-0-0.attr c.args.attr c.in-Ok-Some.field-0-0.family c.requires.plain c.requires.few c.requires.broken c.requires.all
    (rw c.in-Ok-Some.field-0-is at c.in-Ok-Some.ensures)

pub returns-in-Ok-None : goal.returns-in-Ok-None
returns-in-Ok-None c = (c.requires.reason (c.is_still.ensures.many c.if-is_still.false), c.requires.few)

pub is_still-requires : goal.is_still-requires
is_still-requires c = breaks-plainly c.args.script.now.query c.args.part c.args.condition c.args.attr c.requires.plain c.requires.broken
