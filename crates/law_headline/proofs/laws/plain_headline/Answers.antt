use Rattle.law_headline.proofs.Headlines.{plain-headline}
use Rattle.law_headline.proofs.laws.plain_headline.Goals as goal

pub returns : goal.returns
returns c = plain-headline
