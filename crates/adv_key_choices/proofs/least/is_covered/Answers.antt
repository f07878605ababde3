use Rattle.std.proofs.Common.{refl}
use Rattle.plan_links.proofs.Gathered.{not_from}
use Rattle.plan_links.proofs.Searching.{any_at, no_more, not_any}
use Rattle.adv_key_choices.specs.declared.choice.Choice.{Choice}
use Rattle.adv_key_choices.specs.Choices.{IsAtMost}
use Rattle.adv_key_choices.proofs.least.is_covered.Goals as goal

pub loop-i-preserved : goal.loop-i-preserved
loop-i-preserved c = no_more (λ (k : Choice). IsAtMost c.args.queries.now k c.args.choice.now) c.args.kept.now c.loop-i.i _ c.loop-i-test.true c.loop-i.invariant (not_from _ c.is_at_most.ensures.1 c.if-is_at_most.false)

pub returns-then-is_at_most : goal.returns-then-is_at_most
returns-then-is_at_most c = (
  (λ h. any_at (λ (k : Choice). IsAtMost c.args.queries.now k c.args.choice.now) c.args.kept.now c.loop-i.i _ c.loop-i-test.true (c.is_at_most.ensures.0 c.if-is_at_most.true)),
  (λ w. refl),
)

pub returns : goal.returns
returns c = (
  (λ h. cc),
  (λ w. absurd (not_any (λ (k : Choice). IsAtMost c.args.queries.now k c.args.choice.now) c.args.kept.now c.loop-i.i c.loop-i-test.false c.loop-i.invariant w)),
)
