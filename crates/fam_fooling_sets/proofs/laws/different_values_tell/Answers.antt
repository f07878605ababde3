use Rattle.fam_fooling_sets.proofs.Mixing.{different-values-tell}
use Rattle.fam_fooling_sets.proofs.laws.different_values_tell.Goals as goal

pub returns : goal.returns
returns c = different-values-tell
