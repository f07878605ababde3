use Rattle.sql_explain.specs.Text.{link_line}
use Rattle.sql_explain.proofs.Writers.{item_broke, item_wrote}
use Rattle.sql_explain.proofs.links.write_each.Goals as goal

pub returns-in_err-write_link : goal.returns-in_err-write_link
returns-in_err-write_link g c = item_broke (link_line c.args.catalog.now c.args.from.now c.args.word.now c.args.sign) c.args.links.now c.loop-link.link-index _ c.from_residual.result _ _ _ c.from_residual.ensures.0 c.loop-link-test.true c.loop-link.invariant c.in_err-write_link.ensures

pub loop-link-preserved : goal.loop-link-preserved
loop-link-preserved g c = item_wrote (link_line c.args.catalog.now c.args.from.now c.args.word.now c.args.sign) c.args.links.now c.loop-link.link-index _ _ _ _ c.loop-link-test.true c.loop-link.invariant c.in_ok-write_link.ensures
