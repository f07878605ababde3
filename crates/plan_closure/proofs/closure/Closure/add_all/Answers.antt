use Rattle.std.proofs.Common.{arith, refl}
use Rattle.plan_closure.proofs.Each.{closure_more, closure_end, room_for, within_for}
use Rattle.plan_closure.proofs.closure.Closure.add_all.Goals as goal

pub add-requires-clause-known : goal.add-requires-clause-known
add-requires-clause-known c = room_for _ _ _ c.args.cs.now c.loop-c.c-index c.loop-c-test.true (c.loop-c.invariant _ _ c.requires.known.closure) c.requires.known.room

pub add-requires-clause-within : goal.add-requires-clause-within
add-requires-clause-within c = within_for _ _ _ _ c.args.cs.now c.loop-c.c-index _ c.loop-c-test.true (c.loop-c.invariant _ _ c.requires.known.closure) refl c.requires.within

pub loop-c-preserved : goal.loop-c-preserved
loop-c-preserved c = λ n ks h. closure_more _ n ks c.args.cs.now c.loop-c.c-index _ c.loop-c-test.true (c.add.ensures n _ (c.loop-c.invariant n ks h))

pub returns : goal.returns
returns c = λ n ks h. closure_end _ n ks c.args.cs.now c.loop-c.c-index (omega (arith, c.loop-c-test.false, c.loop-c.auto.c-index-end)) (c.loop-c.invariant n ks h)
