use Rattle.adv_key_decision.proofs.AllParts.{equal-when, at-most-when, at-most-turned}
use Rattle.adv_key_decision.proofs.equal.are_equal_in.Goals as goal

pub returns-then-is_at_most : goal.returns-then-is_at_most
returns-then-is_at_most c = (
  (λ h. equal-when _ _ _ c.refs-refs.ensures.known c.args.a c.args.b c.requires.left c.requires.right (c.is_at_most.ensures.0 c.if-is_at_most.true) (c.is_at_most-then-is_at_most.ensures.0 h)),
  (λ e. c.is_at_most-then-is_at_most.ensures.1 (at-most-turned _ _ _ c.refs-refs.ensures.known c.args.a c.args.b c.requires.left c.requires.right e)),
)

pub returns-else-is_at_most : goal.returns-else-is_at_most
returns-else-is_at_most c = (
  (λ h. cc),
  (λ e. let x = c.is_at_most.ensures.1 (at-most-when _ _ _ c.refs-refs.ensures.known c.args.a c.args.b c.requires.left c.requires.right e) in cc),
)
