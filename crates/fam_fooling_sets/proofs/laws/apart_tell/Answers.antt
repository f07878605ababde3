use Rattle.fam_fooling_sets.proofs.Mixing.{apart-tell}
use Rattle.fam_fooling_sets.proofs.laws.apart_tell.Goals as goal

pub returns : goal.returns
returns c = apart-tell
