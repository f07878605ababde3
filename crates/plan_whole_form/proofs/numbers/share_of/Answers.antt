use Rattle.std.proofs.Common.{◌∙◌}
use Rattle.plan_whole_form.specs.Numbers.{part_with, dims_in}
use Rattle.plan_whole_form.proofs.Sharing.{share_next}
use Rattle.plan_whole_form.proofs.numbers.share_of.Goals as goal

pub places-preserved : goal.places-preserved
places-preserved c = c.saturating_mul-size.ensures ∙ share_next (part_with (dims_in c.args.streams.now) c.args.equal.now) c.args.arriving c.places.place c.places.size c.free_size.result c.places.invariant c.free_size.ensures
