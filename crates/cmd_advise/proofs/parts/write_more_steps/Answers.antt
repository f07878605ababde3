use Rattle.sql_explain.proofs.Writers.{item_broke, item_wrote}
use Rattle.cmd_advise.specs.Parts.{next_step}
use Rattle.cmd_advise.proofs.parts.write_more_steps.Goals as goal

pub returns-in_err-write_step : goal.returns-in_err-write_step
returns-in_err-write_step g c = item_broke (next_step c.args.names.now.catalog.now c.args.names.now.from.now) c.args.steps.now c.loop-step.step-index _ c.from_residual.result _ _ _ c.from_residual.ensures.0 c.loop-step-test.true c.loop-step.invariant c.in_err-write_step.ensures

pub loop-step-preserved : goal.loop-step-preserved
loop-step-preserved g c = item_wrote (next_step c.args.names.now.catalog.now c.args.names.now.from.now) c.args.steps.now c.loop-step.step-index _ _ _ _ c.loop-step-test.true c.loop-step.invariant c.in_ok-write_step.ensures
