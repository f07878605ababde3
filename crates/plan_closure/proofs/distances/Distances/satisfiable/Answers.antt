use Rattle.plan_closure.proofs.Least.{satisfiable}
use Rattle.plan_closure.proofs.distances.Distances.satisfiable.Goals as goal

pub returns : goal.returns
returns c = λ n cs h. satisfiable c.args.self.now n cs h
