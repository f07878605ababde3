use Rattle.std.proofs.KnownBytes.{Keeps-refl}
use Rattle.sql_script.specs.Script.{name_of}
use Rattle.sql_script.proofs.Endings.{finishes, stops}
use Rattle.cmd_lower.specs.Lowering.{Lowers, found}
use Rattle.cmd_lower.proofs.lower_command.lower.Goals as goal

pub returns-in_default-clause-ends : goal.returns-in_default-clause-ends
returns-in_default-clause-ends g c = Keeps-refl _

pub returns-in-Ok-read_lowered-clause-ends : goal.returns-in-Ok-read_lowered-clause-ends
returns-in-Ok-read_lowered-clause-ends g c =
    let l = c.in-Ok-read_lowered.lowered in
    finishes (Lowers c.args.form) (found l.script.catalog (name_of l.script.statement) l.script.query c.args.form l.finding) c.end_done.result _ _ _ _ tt
    c.in-Ok-read_lowered.ensures.reads.0 c.end_done.ensures.ends

pub returns-clause-ends : goal.returns-clause-ends
returns-clause-ends g c = stops (Lowers c.args.form) c.in-Err.end c.end_early.result _ _ _ _ c.in-Err.ensures.reads c.end_early.ensures.ends
