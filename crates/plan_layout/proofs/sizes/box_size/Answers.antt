use Rattle.std.proofs.Common.{◌∙◌}
use Rattle.plan_layout.proofs.Products.{dims_next}
use Rattle.plan_layout.proofs.sizes.box_size.Goals as goal

pub sizes-preserved : goal.sizes-preserved
sizes-preserved c = c.saturating_mul-size.ensures ∙ dims_next c.args.dims.now c.sizes.dim-index _ c.sizes.size c.dim_size.result c.sizes-test.true c.sizes.invariant c.dim_size.ensures
