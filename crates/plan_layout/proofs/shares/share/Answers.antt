use Rattle.std.proofs.Common.{◌∙◌}
use Rattle.plan_layout.proofs.Sharing.{greatest_next}
use Rattle.plan_layout.proofs.shares.share.Goals as goal

pub streams-preserved : goal.streams-preserved
streams-preserved c = c.max-greatest.ensures ∙ greatest_next c.args.part.now c.streams.arriving c.streams.greatest c.share_of.result c.streams.invariant c.share_of.ensures
