use Rattle.std.proofs.Common.{◌∙◌}
use Rattle.plan_whole_form.specs.Numbers.{part_with, dims_in}
use Rattle.plan_whole_form.proofs.Sharing.{greatest_next}
use Rattle.plan_whole_form.proofs.numbers.share.Goals as goal

pub streams-preserved : goal.streams-preserved
streams-preserved c = c.max-greatest.ensures ∙ greatest_next (part_with (dims_in c.args.streams.now) c.args.equal.now) c.streams.arriving c.streams.greatest c.share_of.result c.streams.invariant c.share_of.ensures
