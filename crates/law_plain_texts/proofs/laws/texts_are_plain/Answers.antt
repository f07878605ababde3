use Rattle.law_plain_texts.proofs.PlainTexts.{texts-are-plain}
use Rattle.law_plain_texts.proofs.laws.texts_are_plain.Goals as goal

pub returns : goal.returns
returns c = texts-are-plain
