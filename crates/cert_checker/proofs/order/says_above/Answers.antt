use Rattle.plan_constraints.proofs.NodeFacts.{limit_in}
use Rattle.cert_checker.proofs.order.says_above.Goals as goal

pub difference-requires-clause-left : goal.difference-requires-clause-left
difference-requires-clause-left c = limit_in c.args.leaf.now.query.now c.args.x c.attrs-attrs.ensures.limits c.requires.left

pub difference-requires-clause-right : goal.difference-requires-clause-right
difference-requires-clause-right c = limit_in c.args.leaf.now.query.now c.args.y c.attrs-attrs.ensures.limits c.requires.right
