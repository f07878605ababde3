use Rattle.std.proofs.Common.{◌≡◌, ◌<◌, ◌∙◌, List, length, subst, arith}
use Rattle.sem_query.specs.declared.part.Pair.{Pair}
use Rattle.sem_query.specs.Parts.{pairs}
use Rattle.plan_closure.specs.Choices.{IsChoice}
use Rattle.plan_constraints.proofs.Sides.{pair_elements}
use Rattle.plan_closure.proofs.Pairs.{so_many}
use Rattle.plan_closure.proofs.Zips.{zip_more_at}
use Rattle.plan_closure.proofs.choosing.choices.Goals as goal

pub choice_of-requires-clause-left : goal.choice_of-requires-clause-left
choice_of-requires-clause-left c = (pair_elements c.args.q.now c.as_slice-pairs.result.now c.loop-i.i _ (c.as_slice-pairs.ensures.value ∙ c.pairs-pairs.ensures) c.loop-i-test.true).0

pub choice_of-requires-clause-right : goal.choice_of-requires-clause-right
choice_of-requires-clause-right c = (pair_elements c.args.q.now c.as_slice-pairs.result.now c.loop-i.i _ (c.as_slice-pairs.ensures.value ∙ c.pairs-pairs.ensures) c.loop-i-test.true).1

pub push-requires : goal.push-requires
push-requires c =
    let e = c.as_slice-pairs.ensures.value ∙ c.pairs-pairs.ensures in
    let l : c.loop-i.i < length (pairs c.args.q.now) = subst (λ (z : List Pair). c.loop-i.i < length z) e c.loop-i-test.true in
    let n : length c.loop-i.list.items ≡ c.loop-i.i = so_many c.args.q.now (pairs c.args.q.now) c.loop-i.list.items c.loop-i.i l c.loop-i.invariant in
    (omega arith, omega (arith, n, c.loop-i-test.true, c.as_slice-pairs.ensures.fits))

pub loop-i-preserved : goal.loop-i-preserved
loop-i-preserved c = zip_more_at (IsChoice c.args.q.now) (pairs c.args.q.now) _ _ _ c.loop-i.i _ _ (c.as_slice-pairs.ensures.value ∙ c.pairs-pairs.ensures) c.loop-i-test.true c.loop-i.invariant c.choice_of.ensures c.push.ensures.items
