use Rattle.sql_explain.proofs.Writers.{item_broke, item_wrote}
use Rattle.cmd_advise.specs.Changes.{cheaper_line}
use Rattle.cmd_advise.proofs.changes.write_comparisons.Goals as goal

pub returns-in_err-write_comparison : goal.returns-in_err-write_comparison
returns-in_err-write_comparison g c = item_broke (cheaper_line c.args.names.now.catalog.now c.args.names.now.from.now) c.args.list.now c.loop-cheaper.cheaper-index _ c.from_residual.result _ _ _ c.from_residual.ensures.0 c.loop-cheaper-test.true c.loop-cheaper.invariant c.in_err-write_comparison.ensures

pub loop-cheaper-preserved : goal.loop-cheaper-preserved
loop-cheaper-preserved g c = item_wrote (cheaper_line c.args.names.now.catalog.now c.args.names.now.from.now) c.args.list.now c.loop-cheaper.cheaper-index _ _ _ _ c.loop-cheaper-test.true c.loop-cheaper.invariant c.in_ok-write_comparison.ensures
