use Rattle.fam_fooling_sets.proofs.Apart.{inequalities-tell}
use Rattle.fam_fooling_sets.proofs.laws.inequalities_tell.Goals as goal

pub returns : goal.returns
returns c = inequalities-tell
