use Rattle.std.proofs.Common.{◌≡◌, ◌+◌, suc, refl, arith}
use Rattle.plan_closure.proofs.Least.{added_broken, added_implied, added_closing, added_tight, small, closed}
use Rattle.plan_closure.proofs.distances.Distances.add.Goals as goal

pub returns-then-self : goal.returns-then-self
returns-then-self c = λ n cs h. added_broken _ n cs h c.args.c c.requires.within c.if-self.true

pub returns-then-has_bound : goal.returns-then-has_bound
returns-then-has_bound c = λ n cs h. added_implied _ n cs h c.args.c c.requires.within c.if-self.false (c.has_bound.ensures.0 c.if-has_bound.true)

pub is_closed_by-requires-clause-small : goal.is_closed_by-requires-clause-small
is_closed_by-requires-clause-small c = small c.args.self.now _ _ c.requires.known.distances c.if-self.false _ _ (omega (arith, c.requires.within.right)) (omega (arith, c.requires.within.left))

pub returns-then-is_closed_by : goal.returns-then-is_closed_by
returns-then-is_closed_by c = λ n cs h. added_closing c.args.self.now n cs h c.args.c c.requires.within _ refl refl refl c.if-self.false (c.is_closed_by.ensures.0 c.if-is_closed_by.true)

pub shorten-requires-clause-small : goal.shorten-requires-clause-small
shorten-requires-clause-small c = λ i j li lj. small c.args.self.now _ _ c.requires.known.distances c.if-self.false i j (omega (arith, li, c.from.ensures)) (omega (arith, lj, c.from.ensures))

pub shorten-requires-clause-closed : goal.shorten-requires-clause-closed
shorten-requires-clause-closed c =
    let e : c.from.result + 1 ≡ suc c.args.self.now.attrs = omega (arith, c.from.ensures) in
    rw e (closed c.args.self.now _ _ c.requires.known.distances c.if-self.false)

pub returns : goal.returns
returns c = λ n cs h.
    added_tight c.args.self.now n cs h c.args.c c.requires.within _ refl refl c.if-self.false (λ k. let y = c.is_closed_by.ensures.1 k in cc)
    (λ i j li lj. c.shorten.ensures i j (omega (arith, li, c.from.ensures, h.attrs)) (omega (arith, lj, c.from.ensures, h.attrs)))
