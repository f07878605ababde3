use Rattle.plan_links.proofs.Gathered.{redundant_by_attr, redundant_by_const, const_where_no_attr, not_from}
use Rattle.plan_links.proofs.redundant.is_redundant.Goals as goal

pub returns-then-some_attr_between : goal.returns-then-some_attr_between
returns-then-some_attr_between c = (
  (λ h. redundant_by_attr c.args.q.now c.args.p.now.signs.items c.args.x c.args.y (rw (c.attr_with_node-left.ensures.attr, c.attr_with_node-right.ensures.attr) at (c.some_attr_between.ensures.0 c.if-some_attr_between.true))),
  (λ r. c.if-some_attr_between.true),
)

pub returns-else-some_attr_between : goal.returns-else-some_attr_between
returns-else-some_attr_between c = (
  (λ h. redundant_by_const c.args.q.now c.args.p.now.signs.items c.args.x c.args.y (rw (c.attr_with_node-left.ensures.attr, c.attr_with_node-right.ensures.attr) at (c.some_const_parts.ensures.0 h))),
  (λ r.
      let n = rw (c.attr_with_node-left.ensures.attr, c.attr_with_node-right.ensures.attr) at (not_from _ c.some_attr_between.ensures.1 c.if-some_attr_between.false) in
      c.some_const_parts.ensures.1 (rw (c.attr_with_node-left.ensures.attr, c.attr_with_node-right.ensures.attr) (const_where_no_attr c.args.q.now c.args.p.now.signs.items c.args.x c.args.y n r))),
)
