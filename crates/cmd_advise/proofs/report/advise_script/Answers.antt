use Rattle.cmd_advise.proofs.Ended.{ends}
use Rattle.cmd_advise.proofs.report.advise_script.Goals as goal

pub returns-in-Ok-clause-ends : goal.returns-in-Ok-clause-ends
returns-in-Ok-clause-ends g c = ends _ _ c.in-Ok.told.held.bytes c.in-Ok.told.state c.end_told.result _ _ c.in-Ok.ensures.reads c.end_told.ensures.ends
