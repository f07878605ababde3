use Rattle.plan_links.proofs.Gathered.{not_from}
use Rattle.plan_conditions.proofs.Two.{min_from, any_from_min}
use Rattle.plan_conditions.proofs.references.breaks_as_min.Goals as goal

pub is_too_many_min-requires-clause-reference : goal.is_too_many_min-requires-clause-reference
is_too_many_min-requires-clause-reference c = min_from c.args.q.now c.args.p.now.signs.items c.args.refs.now c.requires.refs c.args.attr c.as_slice.result.now c.as_slice.ensures.value (c.is_among.ensures.0 c.if-is_among.true)

pub returns-then-is_among : goal.returns-then-is_among
returns-then-is_among c = (
  (λ h. (min_from c.args.q.now c.args.p.now.signs.items c.args.refs.now c.requires.refs c.args.attr c.as_slice.result.now c.as_slice.ensures.value (c.is_among.ensures.0 c.if-is_among.true), c.is_too_many_min.ensures.0 h)),
  (λ w. c.is_too_many_min.ensures.1 w.1),
)

pub returns-else-is_among : goal.returns-else-is_among
returns-else-is_among c = (
  (λ h. cc),
  (λ w. absurd (not_from _ c.is_among.ensures.1 c.if-is_among.false (any_from_min c.args.q.now c.args.p.now.signs.items c.args.refs.now c.requires.refs c.args.attr c.as_slice.result.now c.as_slice.ensures.value w.0))),
)
