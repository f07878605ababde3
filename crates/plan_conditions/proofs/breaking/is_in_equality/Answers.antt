use Rattle.plan_links.proofs.Gathered.{not_from}
use Rattle.plan_conditions.proofs.Told.{by_left, by_right, right_if_not_left}
use Rattle.plan_conditions.proofs.breaking.is_in_equality.Goals as goal

pub returns-then-has_left : goal.returns-then-has_left
returns-then-has_left c = ((λ h. by_left c.args.q.now c.args.p.now.signs.items c.args.refs.now c.requires.refs c.args.attr c.as_slice.result.now c.as_slice.ensures.value (c.has_left.ensures.0 c.if-has_left.true)), (λ w. c.if-has_left.true))

pub returns-else-has_left : goal.returns-else-has_left
returns-else-has_left c = (
  (λ h. by_right c.args.q.now c.args.p.now.signs.items c.args.refs.now c.requires.refs c.args.attr c.as_slice-else-has_left.result.now c.as_slice-else-has_left.ensures.value (c.has_right.ensures.0 h)),
  (λ w. c.has_right.ensures.1 (right_if_not_left c.args.q.now c.args.p.now.signs.items c.args.refs.now c.requires.refs c.args.attr c.as_slice.result.now c.as_slice-else-has_left.result.now c.as_slice.ensures.value c.as_slice-else-has_left.ensures.value (not_from _ c.has_left.ensures.1 c.if-has_left.false) w)),
)
