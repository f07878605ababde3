use Rattle.plan_closure.proofs.Upper.{high_answer}
use Rattle.plan_closure.proofs.distances.Distances.hi.Goals as goal

pub returns-clause-answer : goal.returns-clause-answer
returns-clause-answer c = λ n cs h. high_answer _ _ _ (c.upper.ensures.answer n cs h)
