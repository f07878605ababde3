use Rattle.sql_explain.specs.Text.{dim_line}
use Rattle.sql_explain.proofs.Writers.{item_broke, item_wrote}
use Rattle.sql_explain.proofs.streams.write_dims.Goals as goal

pub returns-in_err-write_dim : goal.returns-in_err-write_dim
returns-in_err-write_dim g c = item_broke (dim_line c.args.catalog.now c.args.from.now) c.args.dims.now c.loop-dim.dim-index _ c.from_residual.result _ _ _ c.from_residual.ensures.0 c.loop-dim-test.true c.loop-dim.invariant c.in_err-write_dim.ensures

pub loop-dim-preserved : goal.loop-dim-preserved
loop-dim-preserved g c = item_wrote (dim_line c.args.catalog.now c.args.from.now) c.args.dims.now c.loop-dim.dim-index _ _ _ _ c.loop-dim-test.true c.loop-dim.invariant c.in_ok-write_dim.ensures
