use Rattle.law_plain_texts.proofs.PlainTexts.{rows-are-answered}
use Rattle.law_plain_texts.proofs.laws.rows_are_answered.Goals as goal

pub returns : goal.returns
returns c = rows-are-answered
