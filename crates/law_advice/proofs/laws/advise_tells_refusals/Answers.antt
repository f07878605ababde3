use Rattle.law_advice.proofs.StrictStart.{advise-tells-refusals}
use Rattle.law_advice.proofs.laws.advise_tells_refusals.Goals as goal

pub returns : goal.returns
returns c = advise-tells-refusals
