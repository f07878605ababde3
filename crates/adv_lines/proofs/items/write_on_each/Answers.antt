use Rattle.sql_explain.proofs.Writers.{item_broke, item_wrote}
use Rattle.adv_lines.specs.Items.{remedy_on}
use Rattle.adv_lines.proofs.items.write_on_each.Goals as goal

pub returns-in_err-write_on : goal.returns-in_err-write_on
returns-in_err-write_on g c = item_broke (remedy_on c.args.remedy c.args.names.now.catalog.now c.args.names.now.from.now) c.args.set.now c.loop-attr.attr-index _ c.from_residual.result _ _ _ c.from_residual.ensures.0 c.loop-attr-test.true c.loop-attr.invariant c.in_err-write_on.ensures

pub loop-attr-preserved : goal.loop-attr-preserved
loop-attr-preserved g c = item_wrote (remedy_on c.args.remedy c.args.names.now.catalog.now c.args.names.now.from.now) c.args.set.now c.loop-attr.attr-index _ _ _ _ c.loop-attr-test.true c.loop-attr.invariant c.in_ok-write_on.ensures
