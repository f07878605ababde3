use Rattle.cert_checker.proofs.Searching.{not_from}
use Rattle.cert_checker.proofs.LeafOrder.{bounded_from, above_if_bounded, below_if_bounded}
use Rattle.cert_checker.proofs.order.is_enclosed.Goals as goal

pub returns-then-has_bound : goal.returns-then-has_bound
returns-then-has_bound c =
    let e = rw c.attrs.ensures.value at c.node-place.ensures.value in (
      (λ h. bounded_from c.args.leaf.now.query.now c.args.leaf.now.signs.now c.args.leaf.now.bounds.now c.requires.leaf c.args.attr c.requires.among c.node-place.result e (c.has_bound.ensures.0 c.if-has_bound.true) (c.has_bound-then-has_bound.ensures.0 h)),
      (λ w. c.has_bound-then-has_bound.ensures.1 (below_if_bounded c.args.leaf.now.query.now c.args.leaf.now.signs.now c.args.leaf.now.bounds.now c.requires.leaf c.args.attr c.requires.among c.node-place.result e w)),
    )

pub returns-else-has_bound : goal.returns-else-has_bound
returns-else-has_bound c =
    let e = rw c.attrs.ensures.value at c.node-place.ensures.value in (
      (λ h. cc),
      (λ w. absurd (not_from _ c.has_bound.ensures.1 c.if-has_bound.false (above_if_bounded c.args.leaf.now.query.now c.args.leaf.now.signs.now c.args.leaf.now.bounds.now c.requires.leaf c.args.attr c.requires.among c.node-place.result e w))),
    )
