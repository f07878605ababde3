use Rattle.cert_checker.proofs.Searching.{not_from, not_iff}
use Rattle.cert_checker.proofs.LeafRefs.{equality_from, equality_to}
use Rattle.cert_checker.proofs.breaking.breaks_second.Goals as goal

pub returns-then-has_equality : goal.returns-then-has_equality
returns-then-has_equality c =
    let n = not_iff c.is_bounded.result c.is_bounded.ensures.0 c.is_bounded.ensures.1 in
    let e = equality_from c.args.leaf.now.query.now c.args.leaf.now.signs.now c.args.attr (c.has_equality.ensures.0 c.if-has_equality.true) in
    ((λ h. (n.0 h, e.0, e.1)), (λ w. n.1 w.0))

pub returns-else-has_equality : goal.returns-else-has_equality
returns-else-has_equality c = (
  (λ h. cc),
  (λ w. absurd (not_from _ c.has_equality.ensures.1 c.if-has_equality.false (equality_to c.args.leaf.now.query.now c.args.leaf.now.signs.now c.args.attr (w.1, w.2)))),
)
