use Rattle.law_advice.proofs.Locking.{finds_locked_answers}
use Rattle.law_advice.proofs.laws.finds_locked_answers.Goals as goal

pub returns : goal.returns
returns c = finds_locked_answers
