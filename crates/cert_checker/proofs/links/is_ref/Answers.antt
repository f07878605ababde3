use Rattle.cert_checker.proofs.Searching.{not_from, not_iff}
use Rattle.cert_checker.proofs.LeafRefs.{ref_from, link_of_ref, unbounded_ref}
use Rattle.cert_checker.proofs.links.is_ref.Goals as goal

pub returns-then-has_link : goal.returns-then-has_link
returns-then-has_link c =
    let n = not_iff c.is_bounded.result c.is_bounded.ensures.0 c.is_bounded.ensures.1 in (
      (λ h. ref_from c.args.leaf.now.query.now c.args.leaf.now.signs.now c.args.side c.args.attr (c.has_link.ensures.0 c.if-has_link.true) (n.0 h)),
      (λ r. n.1 (unbounded_ref c.args.leaf.now.query.now c.args.leaf.now.signs.now c.args.side c.args.attr r)),
    )

pub returns-else-has_link : goal.returns-else-has_link
returns-else-has_link c = (
  (λ h. cc),
  (λ r. absurd (not_from _ c.has_link.ensures.1 c.if-has_link.false (link_of_ref c.args.leaf.now.query.now c.args.leaf.now.signs.now c.args.side c.args.attr r))),
)
