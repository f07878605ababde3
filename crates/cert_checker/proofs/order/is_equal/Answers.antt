use Rattle.cert_checker.proofs.Searching.{not_from}
use Rattle.cert_checker.proofs.LeafOrder.{equal_from, equal_to, equal_back}
use Rattle.cert_checker.proofs.order.is_equal.Goals as goal

pub returns-then-says_above : goal.returns-then-says_above
returns-then-says_above c = (
  (λ h. equal_from c.args.leaf.now.query.now c.args.leaf.now.signs.now c.args.leaf.now.bounds.now c.requires.leaf c.args.x c.args.y c.requires.left c.requires.right (c.says_above.ensures.0 c.if-says_above.true) (c.says_above-then-says_above.ensures.0 h)),
  (λ w. c.says_above-then-says_above.ensures.1 (equal_back c.args.leaf.now.query.now c.args.leaf.now.signs.now c.args.leaf.now.bounds.now c.requires.leaf c.args.x c.args.y c.requires.left c.requires.right w)),
)

pub returns-else-says_above : goal.returns-else-says_above
returns-else-says_above c = (
  (λ h. cc),
  (λ w. absurd (not_from _ c.says_above.ensures.1 c.if-says_above.false (equal_to c.args.leaf.now.query.now c.args.leaf.now.signs.now c.args.leaf.now.bounds.now c.requires.leaf c.args.x c.args.y c.requires.left c.requires.right w))),
)
