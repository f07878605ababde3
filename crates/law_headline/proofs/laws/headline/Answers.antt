use Rattle.law_headline.proofs.Headlines.{headline}
use Rattle.law_headline.proofs.laws.headline.Goals as goal

pub returns : goal.returns
returns c = headline
