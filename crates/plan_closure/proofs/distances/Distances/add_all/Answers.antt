use Rattle.std.proofs.Common.{arith, refl}
use Rattle.plan_closure.proofs.Each.{distances_more, distances_end, known_for, inside_for}
use Rattle.plan_closure.proofs.distances.Distances.add_all.Goals as goal

pub add-requires-clause-known : goal.add-requires-clause-known
add-requires-clause-known c = known_for _ _ _ c.args.cs.now c.loop-c.c-index (c.loop-c.invariant _ _ c.requires.known.distances)

pub add-requires-clause-within : goal.add-requires-clause-within
add-requires-clause-within c = inside_for _ _ _ _ c.args.cs.now c.loop-c.c-index _ c.loop-c-test.true (c.loop-c.invariant _ _ c.requires.known.distances) refl c.requires.within

pub loop-c-preserved : goal.loop-c-preserved
loop-c-preserved c = λ n ks h. distances_more _ n ks c.args.cs.now c.loop-c.c-index _ c.loop-c-test.true (c.add.ensures n _ (c.loop-c.invariant n ks h))

pub returns : goal.returns
returns c = λ n ks h. distances_end _ n ks c.args.cs.now c.loop-c.c-index (omega (arith, c.loop-c-test.false, c.loop-c.auto.c-index-end)) (c.loop-c.invariant n ks h)
