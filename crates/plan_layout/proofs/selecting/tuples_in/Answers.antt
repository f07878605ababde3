use Rattle.plan_layout.proofs.Ranging.{sizes_start, sizes_next, sizes_end}
use Rattle.plan_layout.proofs.selecting.tuples_in.Goals as goal

pub columns-init : goal.columns-init
columns-init c = sizes_start c.args.q.now c.args.p.now.signs.items

pub columns-preserved : goal.columns-preserved
columns-preserved c = sizes_next c.args.q.now c.args.p.now.signs.items c.args.columns.now c.columns.i _ c.columns.size c.size_of.result _ c.columns-test.true c.columns.invariant c.size_of.ensures c.saturating_mul-size.ensures

pub returns : goal.returns
returns c = sizes_end c.args.q.now c.args.p.now.signs.items c.args.columns.now c.columns.i c.columns.size c.columns-test.false c.columns.invariant
