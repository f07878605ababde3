use Rattle.std.proofs.Common.{◌∙◌}
use Rattle.plan_whole_form.specs.Numbers.{part_with, dims_in}
use Rattle.plan_whole_form.proofs.Sharing.{free_next}
use Rattle.plan_whole_form.proofs.numbers.free_size.Goals as goal

pub dims-preserved : goal.dims-preserved
dims-preserved c = c.saturating_mul-size.ensures ∙ free_next (part_with (dims_in c.args.streams.now) c.args.equal.now) c.args.arriving c.args.place c.dims_at-dims.result.now c.dims.i _ c.dims.size c.free_values.result c.dims-test.true c.dims.invariant c.free_values.ensures
