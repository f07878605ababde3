use Rattle.std.proofs.Common.{◌∙◌}
use Rattle.plan_layout.proofs.Sharing.{free_next}
use Rattle.plan_layout.proofs.shares.free_size.Goals as goal

pub dims-preserved : goal.dims-preserved
dims-preserved c = c.saturating_mul-size.ensures ∙ free_next c.args.part.now c.args.arriving c.args.place c.dims_at-dims.result.now c.dims.i _ c.dims.size c.free_values.result c.dims-test.true c.dims.invariant c.free_values.ensures
