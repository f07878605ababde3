use Rattle.std.proofs.Common.{sym, ◌∙◌}
use Rattle.cmd_lower.proofs.Found.{rows-shown, few-by-form, none-by-form}
use Rattle.cmd_lower.proofs.finding.find_for.Goals as goal

pub returns-then-is_still : goal.returns-then-is_still
returns-then-is_still c =
    few-by-form c.args.script.now c.args.form c.args.part c.args.condition c.args.attr c.requires.formed c.requires.few c.requires.broken (c.is_still.ensures.few c.if-is_still.true)

pub returns-in-Ok-Some : goal.returns-in-Ok-Some
returns-in-Ok-Some c =
    rows-shown c.args.script.now c.args.form c.args.part c.args.condition c.in-Ok-Some.field-0-0.attr c.args.attr c.in-Ok-Some.field-0-0.family c.requires.formed c.requires.few c.requires.broken
    (sym c.is_left_out.ensures ∙ c.if-is_left_out.false) (rw c.in-Ok-Some.field-0-is at c.in-Ok-Some.ensures)

pub returns-in-Ok-None : goal.returns-in-Ok-None
returns-in-Ok-None c =
    none-by-form c.args.script.now c.args.form c.args.part c.args.condition c.args.attr c.is_still.ensures.limits c.requires.formed c.requires.few c.requires.broken (c.is_still.ensures.many c.if-is_still.false)

pub is_still-requires : goal.is_still-requires
is_still-requires c = record { first = record { part = c.args.part; condition = c.args.condition; attr = c.args.attr }; is = c.requires.broken }
