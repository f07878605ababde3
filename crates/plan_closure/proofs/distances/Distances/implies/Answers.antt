use Rattle.std.proofs.Common.{refl}
use Rattle.plan_closure.proofs.Least.{implied, always_implied}
use Rattle.plan_closure.proofs.distances.Distances.implies.Goals as goal

pub returns-then-self : goal.returns-then-self
returns-then-self c = λ n cs h. ((λ t. always_implied c.args.self.now n cs h c.args.c c.requires.within c.if-self.true), (λ i. refl))

pub returns : goal.returns
returns c = λ n cs h.
    let r = implied c.args.self.now n cs h c.args.c c.requires.within c.if-self.false in
    ((λ y. r.0 (c.has_bound.ensures.0 y)), (λ i. c.has_bound.ensures.1 (r.1 i)))
