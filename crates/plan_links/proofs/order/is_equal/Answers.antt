use Rattle.plan_links.proofs.AtNodes.{equal_when, above_when_equal, above_when_equal_turned}
use Rattle.plan_links.proofs.InPartFacts.{as_known}
use Rattle.plan_links.proofs.order.is_equal.Goals as goal

pub returns-then-keeps : goal.returns-then-keeps
returns-then-keeps c = (
  (λ h. equal_when _ _ _ (as_known _ _ _ c.requires.known) _ _ c.requires.left c.requires.right (c.keeps.ensures.0 c.if-keeps.true) (c.keeps-then-keeps.ensures.0 h)),
  (λ a. c.keeps-then-keeps.ensures.1 (above_when_equal_turned _ _ _ (as_known _ _ _ c.requires.known) _ _ c.requires.left c.requires.right a)),
)

pub returns-else-keeps : goal.returns-else-keeps
returns-else-keeps c = ((λ h. cc), (λ a. let x = c.keeps.ensures.1 (above_when_equal _ _ _ (as_known _ _ _ c.requires.known) _ _ c.requires.left c.requires.right a) in cc))
