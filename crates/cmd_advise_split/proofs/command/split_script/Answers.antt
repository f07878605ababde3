use Rattle.std.proofs.KnownBytes.{Keeps-refl}
use Rattle.sql_script.proofs.Endings.{stops}
use Rattle.cmd_advise_split.specs.Splitting.{Splits}
use Rattle.cmd_advise_split.proofs.Ended.{ends}
use Rattle.cmd_advise_split.proofs.command.split_script.Goals as goal

pub returns-in_default-clause-ends : goal.returns-in_default-clause-ends
returns-in_default-clause-ends g c = Keeps-refl _

pub returns-in-Ok-read_found-clause-ends : goal.returns-in-Ok-read_found-clause-ends
returns-in-Ok-read_found-clause-ends g c = ends _ _ c.in-Ok-read_found.found c.end_found.result _ _ c.in-Ok-read_found.ensures.reads c.end_found.ensures.ends

pub returns-clause-ends : goal.returns-clause-ends
returns-clause-ends g c = stops Splits c.in-Err.end c.end_early.result _ _ _ _ c.in-Err.ensures.reads c.end_early.ensures.ends
