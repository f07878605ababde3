use Rattle.plan_closure.proofs.Upper.{high_answer}
use Rattle.plan_closure.proofs.bounds.Bounds.hi.Goals as goal

pub returns-clause-answer : goal.returns-clause-answer
returns-clause-answer c = high_answer _ _ _ c.upper.ensures.answer
