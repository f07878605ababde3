use Rattle.law_advice.proofs.Agreement.{finds_answers}
use Rattle.law_advice.proofs.laws.finds_answers.Goals as goal

pub returns : goal.returns
returns c = finds_answers
