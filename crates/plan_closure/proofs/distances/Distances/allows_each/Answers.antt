use Rattle.std.proofs.Common.{arith, refl}
use Rattle.plan_constraints.specs.Solutions.{Allows}
use Rattle.plan_closure.proofs.Each.{all_more, all_end, all_one}
use Rattle.plan_closure.proofs.distances.Distances.allows_each.Goals as goal

pub loop-c-preserved : goal.loop-c-preserved
loop-c-preserved c = λ n ks h. all_more (Allows ks) c.args.cs.now c.loop-c.c-index _ c.loop-c-test.true (c.loop-c.invariant n ks h) ((c.allows.ensures n ks h).0 c.if-not-allows.false)

pub returns-then-not-allows : goal.returns-then-not-allows
returns-then-not-allows c = λ n ks h. ((λ t. cc), (λ a. let y = (c.allows.ensures n ks h).1 (all_one (Allows ks) c.args.cs.now c.loop-c.c-index _ c.loop-c-test.true a) in cc))

pub returns : goal.returns
returns c = λ n ks h. ((λ t. all_end (Allows ks) c.args.cs.now c.loop-c.c-index (omega (arith, c.loop-c-test.false, c.loop-c.auto.c-index-end)) (c.loop-c.invariant n ks h)), (λ a. refl))
