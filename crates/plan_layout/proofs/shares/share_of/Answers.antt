use Rattle.std.proofs.Common.{◌∙◌}
use Rattle.plan_layout.proofs.Sharing.{share_next}
use Rattle.plan_layout.proofs.shares.share_of.Goals as goal

pub places-preserved : goal.places-preserved
places-preserved c = c.saturating_mul-size.ensures ∙ share_next c.args.part.now c.args.arriving c.places.place c.places.size c.free_size.result c.places.invariant c.free_size.ensures
