use Rattle.std.proofs.Common.{refl}
use Rattle.plan_links.proofs.Searching.{no_more_at, not_any_at}
use Rattle.plan_links.proofs.Gathered.{not_from}
use Rattle.adv_key_decision.specs.Equal.{AreSeenEqual}
use Rattle.adv_key_decision.proofs.OneClass.{selected-at}
use Rattle.adv_key_decision.proofs.judging.is_selected.Goals as goal

pub loop-i-preserved : goal.loop-i-preserved
loop-i-preserved c =
    no_more_at (AreSeenEqual c.args.q.now c.args.a) c.args.q.now.select c.select-select.result.now c.loop-i.i _ c.select-select.ensures.value c.loop-i-test.true c.loop-i.invariant
    (not_from _ c.are_equal.ensures.1 c.if-are_equal.false)

pub returns-then-are_equal : goal.returns-then-are_equal
returns-then-are_equal c = (
  (λ h. selected-at c.args.q.now c.args.a c.select-select.result.now c.loop-i.i _ c.select-select.ensures.value c.loop-i-test.true (c.are_equal.ensures.0 c.if-are_equal.true)),
  (λ w. refl),
)

pub returns : goal.returns
returns c = (
  (λ h. cc),
  (λ w. absurd (not_any_at (AreSeenEqual c.args.q.now c.args.a) c.args.q.now.select c.select-select.result.now c.loop-i.i c.select-select.ensures.value c.loop-i-test.false c.loop-i.invariant
      (w.selected.0, w.column, w.selected.1, w.selected.2, w.equal))),
)
