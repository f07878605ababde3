use Rattle.cmd_lower.proofs.Written.{rows-found}
use Rattle.cmd_lower.proofs.printing.print.Goals as goal

pub write_family-requires-clause-shown : goal.write_family-requires-clause-shown
write_family-requires-clause-shown g c =
    (c.args.form.families, (rows-found c.args.lowered.now.script.catalog c.args.lowered.now.script.query c.args.form c.args.lowered.now.finding c.in-Rows.part c.in-Rows.condition c.in-Rows.attr c.in-Rows.family c.in-Rows.is c.requires.is).1)
