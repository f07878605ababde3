use Rattle.std.proofs.Common.{arith}
use Rattle.plan_closure.proofs.Least.{upper_is, small, whole}
use Rattle.plan_closure.proofs.distances.Distances.upper.Goals as goal

pub returns-clause-answer : goal.returns-clause-answer
returns-clause-answer c = λ n cs h. rw (c.bound_of.ensures, c.distance_between.ensures) (upper_is c.args.self.now n cs h (whole _ c.requires.satisfiable) _ _ (omega (arith, c.requires.left, h.attrs)) (omega (arith, c.requires.right, h.attrs)))

pub returns-clause-small : goal.returns-clause-small
returns-clause-small c = rw (c.bound_of.ensures, c.distance_between.ensures) (small c.args.self.now _ _ c.requires.satisfiable.distances (whole _ c.requires.satisfiable) _ _ (omega (arith, c.requires.left)) (omega (arith, c.requires.right)))
