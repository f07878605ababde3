use Rattle.std.proofs.Common.{◌∙◌}
use Rattle.cmd_dispatch.proofs.LoadSteps.{summarized}
use Rattle.cmd_dispatch.proofs.load.load.Goals as goal

pub returns-in-Ok-write_all-clause-ends : goal.returns-in-Ok-write_all-clause-ends
returns-in-Ok-write_all-clause-ends g c =
    summarized c.args.rows c.in-Some.lines c.announced-announced.result c.answer_script-answered.new.session c.new-script.result c.as_slice.result.now _
    c.new-script.ensures.lines c.in-Some.ensures c.announced-announced.ensures (c.as_slice.ensures.value ∙ c.summary.ensures) c.in-Ok-write_all.ensures.bytes

pub returns-in-Err-clause-ends : goal.returns-in-Err-clause-ends
returns-in-Err-clause-ends g c =
    summarized c.args.rows c.in-Some.lines c.announced-announced.result c.answer_script-answered.new.session c.new-script.result c.as_slice.result.now _
    c.new-script.ensures.lines c.in-Some.ensures c.announced-announced.ensures (c.as_slice.ensures.value ∙ c.summary.ensures) c.in-Err.ensures
