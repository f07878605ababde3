use Rattle.fam_fooling_sets.proofs.Keeping.{families-need-states}
use Rattle.fam_fooling_sets.proofs.laws.families_need_states.Goals as goal

pub returns : goal.returns
returns c = families-need-states
