use Rattle.law_headline.proofs.AdviseEnds.{advise-is-strict}
use Rattle.law_headline.proofs.laws.advise_is_strict.Goals as goal

pub returns : goal.returns
returns c = advise-is-strict
