use Rattle.cert_checker.proofs.LeafOrder.{less_from, less_to}
use Rattle.cert_checker.proofs.order.is_less.Goals as goal

pub returns : goal.returns
returns c = (
  (λ h. less_from c.args.leaf.now.query.now c.args.leaf.now.signs.now c.args.leaf.now.bounds.now c.requires.leaf c.args.x c.args.y c.requires.left c.requires.right (c.says_above.ensures.0 h)),
  (λ w. c.says_above.ensures.1 (less_to c.args.leaf.now.query.now c.args.leaf.now.signs.now c.args.leaf.now.bounds.now c.requires.leaf c.args.x c.args.y c.requires.left c.requires.right w)),
)
