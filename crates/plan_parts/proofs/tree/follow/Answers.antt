use Rattle.std.proofs.Common.{◌<◌, ◌∷◌, [], length, length-append, arith}
use Rattle.plan_closure.specs.Choices.{chosen}
use Rattle.plan_constraints.specs.PartConstraints.{AddsSign}
use Rattle.plan_parts.proofs.Steps.{adds_here, known_at, within_here, before_same, follows_same}
use Rattle.plan_parts.proofs.Walks.{follows_on}
use Rattle.plan_parts.proofs.tree.follow.Goals as goal

pub next_sign-requires-clause-within : goal.next_sign-requires-clause-within
next_sign-requires-clause-within c = λ s.
    within_here _ _ _ _ s _ c.loop-i.invariant.before
    (adds_here c.args.q.now c.args.choices.now c.loop-i.signs.items s c.index-choices-i.result c.loop-i.i c.requires.before.choices c.loop-i.invariant.at c.loop-i-test.true c.index-choices-i.is)

pub next_sign-requires-clause-known : goal.next_sign-requires-clause-known
next_sign-requires-clause-known c = known_at _ _ _ _ c.loop-i.invariant.before

pub loop-i-preserved : goal.loop-i-preserved
loop-i-preserved c =
    let b = c.loop-i.invariant.before in
    let s = c.in-Some.sign in
    let l : length c.loop-i.signs.items < length c.args.choices.now = omega (arith, c.loop-i.invariant.at, c.loop-i-test.true) in
    let a : AddsSign c.args.q.now c.loop-i.signs.items s (chosen c.index-choices-i.result s) =
    adds_here c.args.q.now c.args.choices.now c.loop-i.signs.items s c.index-choices-i.result c.loop-i.i c.requires.before.choices c.loop-i.invariant.at c.loop-i-test.true c.index-choices-i.is in
    rw c.push.ensures.items record {
      at = omega (arith, length-append c.loop-i.signs.items (s ∷ []), c.loop-i.invariant.at);
      before = before_same _ _ _ _ _ _ b a l (rw c.as_slice.ensures.value at c.in-Some.ensures.agrees) c.in-Some.ensures.implied;
      follow = follows_on _ _ _ _ c.loop-i.invariant.follow (follows_same _ _ _ _ _ _ b a l c.in-Some.ensures.implied);
    }
