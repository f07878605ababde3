use Rattle.fam_fooling_sets.proofs.Telling.{families-tell}
use Rattle.fam_fooling_sets.proofs.laws.families_tell.Goals as goal

pub returns : goal.returns
returns c = families-tell
