use Rattle.sql_explain.specs.Text.{soft_line}
use Rattle.sql_explain.proofs.Writers.{item_broke, item_wrote}
use Rattle.sql_explain.proofs.links.write_soft.Goals as goal

pub returns-in_err-write_soft_link : goal.returns-in_err-write_soft_link
returns-in_err-write_soft_link g c = item_broke (soft_line c.args.catalog.now c.args.from.now) c.args.links.now c.loop-link.link-index _ c.from_residual.result _ _ _ c.from_residual.ensures.0 c.loop-link-test.true c.loop-link.invariant c.in_err-write_soft_link.ensures

pub loop-link-preserved : goal.loop-link-preserved
loop-link-preserved g c = item_wrote (soft_line c.args.catalog.now c.args.from.now) c.args.links.now c.loop-link.link-index _ _ _ _ c.loop-link-test.true c.loop-link.invariant c.in_ok-write_soft_link.ensures
