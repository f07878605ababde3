use Rattle.std.proofs.Common.{◌∙◌}
use Rattle.adv_mends.proofs.Never.{some_listed}
use Rattle.adv_mends.proofs.meeting.has_part.Goals as goal

pub returns-in-Ok : goal.returns-in-Ok
returns-in-Ok c = some_listed c.args.query.now c.in-Ok.parts.items c.len.result (c.len.ensures ∙ c.in-Ok.parts.ok.0) c.in-Ok.ensures.parts
