use Rattle.plan_closure.proofs.Facts.{satisfiable_is}
use Rattle.plan_closure.proofs.closure.Closure.satisfiable.Goals as goal

pub returns : goal.returns
returns c = λ n cs h. rw c.is_broken.ensures (satisfiable_is _ _ _ _ h.settled)
