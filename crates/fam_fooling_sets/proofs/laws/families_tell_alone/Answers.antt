use Rattle.fam_fooling_sets.proofs.TellingAlone.{families-tell-alone}
use Rattle.fam_fooling_sets.proofs.laws.families_tell_alone.Goals as goal

pub returns : goal.returns
returns c = families-tell-alone
