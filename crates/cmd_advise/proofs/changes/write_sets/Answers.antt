use Rattle.sql_explain.proofs.Writers.{read_broke, read_wrote}
use Rattle.adv_lines.specs.Items.{set_line}
use Rattle.cmd_advise.proofs.changes.write_sets.Goals as goal

pub returns-in_err-write_set : goal.returns-in_err-write_set
returns-in_err-write_set g c = read_broke (set_line c.args.by c.args.names.now.catalog.now c.args.names.now.from.now) c.args.sets.now c.loop-set.set-index c.set-item.result c.from_residual.result _ _ _ c.set-item.is c.from_residual.ensures.0 c.loop-set-test.true c.loop-set.invariant (rw (c.columns.ensures.value) at c.in_err-write_set.ensures)

pub loop-set-preserved : goal.loop-set-preserved
loop-set-preserved g c = read_wrote (set_line c.args.by c.args.names.now.catalog.now c.args.names.now.from.now) c.args.sets.now c.loop-set.set-index c.set-item.result _ _ _ c.set-item.is c.loop-set-test.true c.loop-set.invariant (rw (c.columns.ensures.value) at c.in_ok-write_set.ensures)
